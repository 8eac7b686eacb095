-- In a traced polygon the exterior is the first ring.
use Rattle.std.proofs.Common.{◌≡◌, refl, sym, ap, ◌∙◌, subst, arith, ℕ, zero, suc, ◌+◌, ◌*◌, ◌<◌, Bool, true, false, List, [], ◌∷◌, ◌++◌, map, length, get_or, nat_eq, nat_lt, All, AllPairs, Contains, pos}
use Rattle.std.proofs.Math.IntN.{ℤ}
use Rattle.std.specs.Prelude.{◌<ℤ◌, int_lt, ◌&&◌}
use Rattle.std.proofs.lemmas.Bool.{and_from, false_from_ne_true, lt-ltb, ltb-true}
use Rattle.std.proofs.lemmas.Int.{ints}
use Rattle.std.proofs.lemmas.List.{get_or_default, length-append}
use Rattle.std.proofs.lemmas.List.Elements.{Contains-get_or}
use Rattle.lists.specs.Lists.{has}
use Rattle.lists.proofs.Members.{filter-Contains}
use Rattle.plane_algebra.proofs.Tests.{lt_from, lt_to}
use Rattle.plane_model.specs.Points.{Segment, Path}
use Rattle.plane_model.specs.Arcs.{SignedArc}
use Rattle.plane_model.specs.Rings.{turn_at_least}
use Rattle.plane_faces.specs.Places.{Place}
use Rattle.plane_faces.specs.Rings.{IsPolygon}
use Rattle.face_walk.specs.Places.{FaceTable, face_left_of, signed_below}
use Rattle.face_sets.specs.Boundary.{IsOnBoundary, boundary, is_outward}
use Rattle.ring_trace.specs.Traced.{BeginsWithLeast, bounded, is_of_boundary, once_if}
use Rattle.ring_trace.specs.Turns.{MayStandBefore, is_left, round_of}
use Rattle.ring_trace.proofs.PartSides.{of_test}
use Rattle.face_sets.proofs.BoundaryLemmas.{below_arc}
use Rattle.part_laws.specs.Parts.{HasExteriorFirst, TracedPolygonsHaveExteriors}
use Rattle.part_laws.proofs.PolygonLaws.{polygons_have_exteriors}

right_is_not_left : (t : ℤ) → t <ℤ pos 0 → int_lt (pos 0) t ≡ false
right_is_not_left t h = false_from_ne_true (int_lt (pos 0) t) (λ e. let k = lt_from (pos 0) t e in absurd (omega (arith, ints)))

module _ (arcs : List Path) where
  abbrev turn_of : List SignedArc → ℤ
  turn_of ring = turn_at_least (round_of arcs ring)

  not_both : (ring : List SignedArc) → is_left arcs ring ≡ true → turn_of ring <ℤ pos 0 → ⊥
  not_both ring e h = let f : true ≡ false = sym e ∙ right_is_not_left (turn_of ring) h in absurd (cc)

  -- the ring of the exterior, and the rings after it
  pub split_map : (polygon : List (List SignedArc)) (exterior : Path) (after : List Path) → map (round_of arcs) polygon ≡ exterior ∷ after →
      (first : List SignedArc) × (rest : List (List SignedArc)) × (polygon ≡ first ∷ rest) × (round_of arcs first ≡ exterior) × (map (round_of arcs) rest ≡ after)
  split_map [] exterior after e = absurd (let f = ap (λ (ps : List Path). length ps) e in omega arith)
  split_map (r ∷ rest) exterior after e = (r, rest, refl, ap (λ (ps : List Path). get_or ps 0 exterior) e, ap tail_of e)
    where
      tail_of : List Path → List Path
      tail_of [] = []
      tail_of (p ∷ ps) = ps

  pub all_back : (P : Path → Type 0) (rings : List (List SignedArc)) → All P (map (round_of arcs) rings) → All (λ ring. P (round_of arcs ring)) rings
  all_back P [] h k d l = absurd (omega arith)
  all_back P (r ∷ rings) h zero d l = h 0 (round_of arcs r) (omega arith)
  all_back P (r ∷ rings) h (suc k) d l = all_back P rings (λ i e m. h (suc i) e (omega arith)) k d (omega arith)

  -- what stands before the exterior would turn left
  pub nothing_before : (S : List Segment) (f : Place → Bool) (polygon : List (List SignedArc)) → AllPairs (MayStandBefore arcs) polygon → (h : IsPolygon S f (map (round_of arcs) polygon)) → h.before ≡ []
  nothing_before S f polygon pairs h = go h.before refl
    where
      go : (xs : List Path) → h.before ≡ xs → xs ≡ []
      go [] e = refl
      go (x ∷ xs) e = absurd bad
        where
          are : map (round_of arcs) polygon ≡ x ∷ (xs ++ (h.exterior ∷ h.after))
          are = h.are ∙ ap (λ (ps : List Path). ps ++ (h.exterior ∷ h.after)) e

          bad : ⊥
          bad =
              let (first, rest, is, first_is, rest_is) = split_map polygon x (xs ++ (h.exterior ∷ h.after)) are in
              let size = length-append xs (h.exterior ∷ h.after) in
              let turns : turn_of first <ℤ pos 0 = subst (λ (p : Path). turn_at_least p <ℤ pos 0) (sym first_is) (subst (λ (ps : List Path). All (λ p. turn_at_least p <ℤ pos 0) (ps ++ h.after)) e h.holes_turn_right 0 x (omega arith)) in
              let later : (r : List SignedArc) × (MayStandBefore arcs first r) × (round_of arcs r ≡ h.exterior) = found rest rest_is (λ k d l. subst (λ (ps : List (List SignedArc)). AllPairs (MayStandBefore arcs) ps) is pairs 0 (suc k) d (omega arith) (omega arith)) in
              let left : is_left arcs later.0 ≡ true = lt_to (pos 0) (turn_of later.0) (subst (λ (p : Path). pos 0 <ℤ turn_at_least p) (sym later.2) h.exterior_turns_left) in
              not_both first (later.1.exteriors_first left) turns
            where
              found : {first : List SignedArc} (rest : List (List SignedArc)) → map (round_of arcs) rest ≡ xs ++ (h.exterior ∷ h.after) → ((k : ℕ) (d : List SignedArc) → k < length rest → MayStandBefore arcs first (get_or rest k d)) →
                  (r : List SignedArc) × (MayStandBefore arcs first r) × (round_of arcs r ≡ h.exterior)
              found {first} rest e may = search_on xs rest e may
                where
                  search_on : (ys : List Path) (rs : List (List SignedArc)) → map (round_of arcs) rs ≡ ys ++ (h.exterior ∷ h.after) → ((k : ℕ) (d : List SignedArc) → k < length rs → MayStandBefore arcs first (get_or rs k d)) →
                      (r : List SignedArc) × (MayStandBefore arcs first r) × (round_of arcs r ≡ h.exterior)
                  search_on [] rs e may = let (r, rest, is, r_is, rest_is) = split_map rs h.exterior h.after e in (r, subst (λ (ps : List (List SignedArc)). MayStandBefore arcs first (get_or ps 0 r)) is (may 0 r (subst (λ (ps : List (List SignedArc)). 0 < length ps) (sym is) (omega arith))), r_is)
                  search_on (y ∷ ys) [] e may = absurd (let f = ap (λ (ps : List Path). length ps) e in omega arith)
                  search_on (y ∷ ys) (r ∷ rs) e may = search_on ys rs (let (first, rest, is, first_is, rest_is) = split_map (r ∷ rs) y (ys ++ (h.exterior ∷ h.after)) e in ap (λ (qs : List (List SignedArc)). map (round_of arcs) (drop_first qs)) is ∙ rest_is) (λ k d l. may (suc k) d (omega arith))
                    where
                      drop_first : List (List SignedArc) → List (List SignedArc)
                      drop_first [] = []
                      drop_first (q ∷ qs) = qs

  pub exterior_first : (S : List Segment) (f : Place → Bool) (polygon : List (List SignedArc)) → AllPairs (MayStandBefore arcs) polygon → IsPolygon S f (map (round_of arcs) polygon) → HasExteriorFirst arcs polygon
  exterior_first S f polygon pairs h =
      let none = nothing_before S f polygon pairs h in
      let (first, rest, is, first_is, rest_is) = split_map polygon h.exterior h.after (h.are ∙ ap (λ (ps : List Path). ps ++ (h.exterior ∷ h.after)) none) in
      let holes : All (λ ring. turn_of ring <ℤ pos 0) rest =
      all_back (λ p. turn_at_least p <ℤ pos 0) rest (subst (λ (ps : List Path). All (λ p. turn_at_least p <ℤ pos 0) ps) (ap (λ (ps : List Path). ps ++ h.after) none ∙ sym rest_is) h.holes_turn_right) in
      let later : AllPairs (MayStandBefore arcs) (first ∷ rest) = subst (λ (ps : List (List SignedArc)). AllPairs (MayStandBefore arcs) ps) is pairs in
      record {
        exterior = first;
        holes = rest;
        are = is;
        exterior_turns_left = subst (λ (p : Path). pos 0 <ℤ turn_at_least p) (sym first_is) h.exterior_turns_left;
        holes_turn_right = holes;
        in_order = λ i j d less l.
            (later (suc i) (suc j) d (omega arith) (omega arith)).in_order (right_is_not_left (turn_of (get_or rest i d)) (holes i d (omega arith)) ∙ sym (right_is_not_left (turn_of (get_or rest j d)) (holes j d l)));
      }

-- ---- the polygons of a set

pub on_boundary : (faces : FaceTable) (many : ℕ) → length faces.places ≡ 2 * many + 1 → (set : List ℕ) (a : SignedArc) → Contains (boundary faces.places many set) a → IsOnBoundary faces set a
on_boundary faces many size set a c =
    let test : SignedArc → Bool = λ b. has nat_eq set (face_left_of faces.places b) && is_outward faces.places set b in
    let (there, rest) = filter-Contains test (signed_below many) a c in
    of_test faces many set a size (and_from (nat_lt a.arc many) (test a) (lt-ltb a.arc many (below_arc many a there)) rest)

pub some_arc : (ring : List SignedArc) → BeginsWithLeast ring → 0 < length ring
some_arc [] h = absurd h
some_arc (a ∷ rest) h = omega arith

pub traced_polygons_have_exteriors : TracedPolygonsHaveExteriors
traced_polygons_have_exteriors S arr distinct arcs long along free faces built label by set inner parts are polygons below least simple pairs used k l = (exterior_first arcs S (λ place. has nat_eq part (label place)) polygon (pairs k [] l) polygon_is, polygon_is)
  where
    kept : List (List ℕ)
    kept = bounded faces.places (length arcs) parts

    part : List ℕ
    part = get_or (bounded faces.places (length arcs) parts) k []

    polygon : List (List SignedArc)
    polygon = get_or polygons k []

    polygon_is : IsPolygon S (λ place. has nat_eq (get_or (bounded faces.places (length arcs) parts) k []) (label place)) (map (round_of arcs) (get_or polygons k []))
    polygon_is =
        let there : k < length (bounded faces.places (length arcs) parts) = (let e = used.each in omega arith) in
        let ((i, m, is), has_some) = filter-Contains (λ (p : List ℕ). nat_lt 0 (length (boundary faces.places (length arcs) p))) parts (get_or (bounded faces.places (length arcs) parts) k []) (Contains-get_or (bounded faces.places (length arcs) parts) k [] there) in
        let same : get_or parts i [] ≡ get_or (bounded faces.places (length arcs) parts) k [] = get_or_default parts i [] _ m ∙ is in
        let some : 0 < length (boundary faces.places (length arcs) (get_or (bounded faces.places (length arcs) parts) k [])) = ltb-true 0 _ has_some in
        let none : SignedArc = record { arc = 0; is_reversed = false } in
        let a = get_or (boundary faces.places (length arcs) (get_or (bounded faces.places (length arcs) parts) k [])) 0 none in
        let on : IsOnBoundary faces (get_or (bounded faces.places (length arcs) parts) k []) a =
        on_boundary faces (length arcs) built.places_counted (get_or (bounded faces.places (length arcs) parts) k []) a (Contains-get_or (boundary faces.places (length arcs) (get_or (bounded faces.places (length arcs) parts) k [])) 0 none some) in
        subst (λ (p : List ℕ). IsPolygon S (λ place. has nat_eq p (label place)) (map (round_of arcs) (get_or polygons k []))) same
        (polygons_have_exteriors S arr distinct arcs long along free faces built label by set inner parts are i m (get_or polygons k []) (below k [] l) (λ j d n. some_arc (get_or (get_or polygons k []) j d) (least k [] l j d n)) (simple k [] l)
        (λ c. used.once k c l ∙ ap (λ (p : List ℕ). once_if (is_of_boundary faces.places (length arcs) p c)) (sym same)) a (subst (λ (p : List ℕ). IsOnBoundary faces p a) (sym same) on))
