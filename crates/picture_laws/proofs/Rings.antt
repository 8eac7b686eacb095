-- Each set of faces has polygons as a trace answers them.
use Rattle.std.proofs.Common.{◌≡◌, refl, sym, ap, ◌∙◌, subst, arith, ℕ, ◌<◌, Bool, true, false, cond, not, ◌&&◌, List, [], map, length, get_or, nat_eq, nat_lt, All, AllPairs, Contains}
use Rattle.std.specs.List.{sum_by}
use Rattle.std.specs.List.Sorted.{IsStrictlyIncreasing}
use Rattle.std.proofs.lemmas.Bool.{and_parts, false_from_ne_true, lt-ltb, ltb-true}
use Rattle.std.proofs.lemmas.List.{get_or-map, length-map}
use Rattle.std.proofs.lemmas.List.Elements.{All-contains, All-map}
use Rattle.lists.specs.Lists.{has}
use Rattle.plane_model.specs.Points.{GridPoint, Path, same_point}
use Rattle.plane_model.specs.Drawing.{Drawing}
use Rattle.plane_model.specs.Arcs.{SignedArc}
use Rattle.plane_model.specs.Snapped.{links_of, snapped}
use Rattle.plane_faces.specs.Places.{Place}
use Rattle.arc_table.specs.Around.{start_of}
use Rattle.face_walk.specs.Places.{FaceTable, HasArc, IsBuiltOf, face_left_of, signed_below}
use Rattle.face_sets.specs.Boundary.{boundary, face_right_of, is_outward}
use Rattle.face_sets.specs.Joined.{AreParts}
use Rattle.ring_trace.specs.Pairing.{stop_of}
use Rattle.face_sets.specs.Sets.{IsSetOf}
use Rattle.ring_trace.specs.Traced.{BeginsWithLeast, HasPolygonsOfParts, UsesBoundary, bounded, is_of_boundary, once_if, times, times_round}
use Rattle.ring_trace.specs.Turns.{MayStandBefore}
use Rattle.ring_trace.specs.Ways.{IsSimpleRing}
use Rattle.ring_trace.proofs.BalanceLemmas.{balanced_faces, sum_same}
use Rattle.face_sets.proofs.BoundaryLemmas.{Contains_has, has_Contains}
use Rattle.face_sets.proofs.JoinedLemmas.{joined_over}
use Rattle.ring_trace.proofs.Sums.{sum_by-filter}
use Rattle.ring_trace.proofs.UsedLemmas.{sum_by-map, times-filter, times_below}
use Rattle.part_laws.proofs.BoundedLaws.{parts_have_boundaries}
use Rattle.part_laws.proofs.CountLemmas.{sum_alone, sum_nothing}
use Rattle.region_laws.specs.Followed.{IsWalked}
use Rattle.region_laws.proofs.PartsExist.{parts_exist}
use Rattle.region_laws.proofs.Prints.{faces_of_links}
use Rattle.picture_laws.proofs.Cycles.{AreEven}
use Rattle.picture_laws.proofs.Orders.{IsOfArcs, polygon_exists}

-- ---- how often arcs are in a boundary

-- face on the left and none on the right
abbrev leads_out : List ℕ → List ℕ → SignedArc → Bool
leads_out places set a = has nat_eq set (face_left_of places a) && is_outward places set a

boundary_once : (places : List ℕ) (many : ℕ) (set : List ℕ) (a : SignedArc) → times a (boundary places many set) ≡ once_if (is_of_boundary places many set a)
boundary_once places many set a = times-filter a (leads_out places set) (signed_below many) ∙ ap (λ (n : ℕ). cond (leads_out places set a) n 0) (times_below a many) ∙ tests (nat_lt a.arc many) (leads_out places set a)
  where
    tests : (s t : Bool) → cond t (once_if s) 0 ≡ once_if (s && t)
    tests true true = refl
    tests true false = refl
    tests false true = refl
    tests false false = refl

-- at each point as many arcs of a boundary stop as start
boundary_even : (arcs : List Path) (faces : FaceTable) → IsBuiltOf arcs faces → (set : List ℕ) → AreEven (start_of arcs) (stop_of arcs) (boundary faces.places (length arcs) set)
boundary_even arcs faces built set x =
    counted (start_of arcs) ∙ balanced_faces arcs faces (has nat_eq set) x built ∙ sym (counted (stop_of arcs))
  where
    tests : (s t : Bool) → cond t (once_if s) 0 ≡ once_if (s && t)
    tests true true = refl
    tests true false = refl
    tests false true = refl
    tests false false = refl

    counted : (end_of : SignedArc → GridPoint) → sum_by (λ (a : SignedArc). once_if (same_point x (end_of a))) (boundary faces.places (length arcs) set)
        ≡ sum_by (λ (a : SignedArc). once_if (same_point x (end_of a) && leads_out faces.places set a)) (signed_below (length arcs))
    counted end_of =
        sum_by-filter (leads_out faces.places set) (λ (a : SignedArc). once_if (same_point x (end_of a))) (signed_below (length arcs))
        ∙ sum_same (λ (a : SignedArc). cond (leads_out faces.places set a) (once_if (same_point x (end_of a))) 0) (λ (a : SignedArc). once_if (same_point x (end_of a) && leads_out faces.places set a)) (signed_below (length arcs))
        (λ a. tests (same_point x (end_of a)) (leads_out faces.places set a))

-- ---- the boundaries of the parts of a set

module _ (arcs : List Path) (faces : FaceTable) (built : IsBuiltOf arcs faces) (set : List ℕ) (parts : List (List ℕ)) (are_parts : AreParts faces set parts) (a : SignedArc) where
  abbrev left : ℕ
  left = face_left_of faces.places a

  abbrev right : ℕ
  right = face_right_of faces.places a

  abbrev part_at : ℕ → List ℕ
  part_at i = get_or parts i []

  abbrev on : List ℕ → ℕ
  on some = once_if (is_of_boundary faces.places (length arcs) some a)

  in_set : (i f : ℕ) → i < length parts → Contains (part_at i) f → Contains set f
  in_set i f l c = All-contains (Contains set) (part_at i) f (are_parts.divided.faces i [] l).faces c

  -- the parts of a test
  bounds : (some : List ℕ) → is_of_boundary faces.places (length arcs) some a ≡ true → (a.arc < length arcs) × Contains some left × (Contains some right → ⊥)
  bounds some e =
      let (below, out) = and_parts (nat_lt a.arc (length arcs)) (leads_out faces.places some a) e in
      let (l, r) = and_parts (has nat_eq some left) (is_outward faces.places some a) out in
      (ltb-true a.arc (length arcs) below, has_Contains some left l, λ c. let clash : true ≡ false = sym r ∙ ap not (Contains_has some right c) in absurd (cc))

  bounds_if : (some : List ℕ) → a.arc < length arcs → Contains some left → (Contains some right → ⊥) → is_of_boundary faces.places (length arcs) some a ≡ true
  bounds_if some below l r =
      (λ i. lt-ltb a.arc (length arcs) below i && (Contains_has some left l i && not (false_from_ne_true (has nat_eq some right) (λ e. r (has_Contains some right e)) i)))

  none_if : (some : List ℕ) → (is_of_boundary faces.places (length arcs) some a ≡ true → ⊥) → on some ≡ 0
  none_if some never = ap once_if (false_from_ne_true (is_of_boundary faces.places (length arcs) some a) never)

  -- an arc of the boundary of a part is one of the set
  of_set : (i : ℕ) → i < length parts → is_of_boundary faces.places (length arcs) (part_at i) a ≡ true → is_of_boundary faces.places (length arcs) set a ≡ true
  of_set i l e =
      let (below, at_left, not_right) = bounds (part_at i) e in
      bounds_if set below (in_set i left l at_left) (λ c.
      let arc : HasArc faces a = (let e = built.places_counted in omega arith) in
      let (j, m, d) = are_parts.divided.each right c in
      let same : i ≡ j = (are_parts.joined i j left right l m at_left d).1 (joined_over faces set left a (record { arc = arc; from = refl; into = c })) in
      not_right (subst (λ (k : ℕ). Contains (part_at k) right) (sym same) d))

  parts_once : sum_by on parts ≡ on set
  parts_once = go (is_of_boundary faces.places (length arcs) set a) refl
    where
      go : (b : Bool) → is_of_boundary faces.places (length arcs) set a ≡ b → sum_by on parts ≡ on set
      go false e = sum_nothing on [] parts (λ i l. none_if (part_at i) (λ f. let clash : true ≡ false = sym (of_set i l f) ∙ e in absurd (cc))) ∙ sym (ap once_if e)
      go true e =
          let (below, at_left, not_right) = bounds set e in
          let (j, m, d) = are_parts.divided.each left at_left in
          sum_alone on [] parts j (on set) m
          (ap once_if (bounds_if (part_at j) below d (λ c. not_right (in_set j right m c)) ∙ sym e))
          (λ i l ne. none_if (part_at i) (λ f.
          let here = bounds (part_at i) f in
          ne (are_parts.divided.once i j left l m here.1 d)))

-- ---- polygons of a set

-- polygons as a trace answers them for the set
pub record AreFound (arcs : List Path) (faces : FaceTable) (set : List ℕ) (polygons : List (List (List SignedArc))) : Type 0 where
  pub boundary : UsesBoundary faces.places (length arcs) set polygons
  pub simple : All (All (IsSimpleRing (start_of arcs) (stop_of arcs))) polygons
  pub least_first : All (All BeginsWithLeast) polygons
  pub in_order : All (AllPairs (MayStandBefore arcs)) polygons
  pub of_parts : HasPolygonsOfParts faces (length arcs) set polygons

module _ (d : Drawing) (arcs : List Path) (faces : FaceTable) (label : Place → ℕ) (walked : IsWalked d arcs faces label) (set : List ℕ) (rising : IsStrictlyIncreasing set) (inner : IsSetOf faces set) where
  of_part : (part : List ℕ) → (polygon : List (List SignedArc)) × IsOfArcs arcs (start_of arcs) (stop_of arcs) (boundary faces.places (length arcs) part) polygon
  of_part part = polygon_exists arcs (start_of arcs) (stop_of arcs) (boundary faces.places (length arcs) part) (boundary_even arcs faces walked.built part)

  abbrev polygon_of : List ℕ → List (List SignedArc)
  polygon_of part = (of_part part).0

  round_part : (part : List ℕ) (a : SignedArc) → times_round a (polygon_of part) ≡ once_if (is_of_boundary faces.places (length arcs) part a)
  round_part part a = (of_part part).1.same a ∙ boundary_once faces.places (length arcs) part a

  pub polygons_exist : (polygons : List (List (List SignedArc))) × AreFound arcs faces set polygons
  polygons_exist =
      let (parts, are_parts) = parts_exist arcs faces walked.built set rising in
      let all_kept : bounded faces.places (length arcs) parts ≡ parts = (parts_have_boundaries (links_of (snapped d)) arcs faces (faces_of_links d arcs faces label walked) set inner parts are_parts).1 in
      let long = length-map parts polygon_of in (
        map polygon_of parts,
        record {
          boundary = record {
            once = λ a.
                sum_by-map (times_round a) polygon_of parts
                ∙ sum_same (λ (part : List ℕ). times_round a (polygon_of part)) (λ (part : List ℕ). once_if (is_of_boundary faces.places (length arcs) part a)) parts (λ part. round_part part a)
                ∙ parts_once arcs faces walked.built set parts are_parts a;
          };
          simple = All-map (All (IsSimpleRing (start_of arcs) (stop_of arcs))) polygon_of parts (λ k e l. (of_part (get_or parts k e)).1.simple);
          least_first = All-map (All BeginsWithLeast) polygon_of parts (λ k e l. (of_part (get_or parts k e)).1.least_first);
          in_order = All-map (AllPairs (MayStandBefore arcs)) polygon_of parts (λ k e l. (of_part (get_or parts k e)).1.in_order);
          of_parts = record {
            parts = parts;
            are_parts = are_parts;
            for_each = record {
              each = long ∙ sym (ap (λ (ps : List (List ℕ)). length ps) all_kept);
              once = λ k a l.
                  ap (times_round a) (get_or-map polygon_of parts k [] [] (omega arith))
                  ∙ round_part (get_or parts k []) a
                  ∙ ap (λ (ps : List (List ℕ)). once_if (is_of_boundary faces.places (length arcs) (get_or ps k []) a)) (sym all_kept);
            };
          };
        },
      )
