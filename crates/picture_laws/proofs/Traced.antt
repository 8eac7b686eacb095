-- What is traced for a set of faces fits the region that the set follows, drawn as points.
use Rattle.std.proofs.Common.{◌≡◌, refl, sym, ap, ◌∙◌, subst, arith, ℕ, ◌<◌, ◌≤◌, true, ◌&&◌, nat_eq, nat_lt, List, [], ◌∷◌, map, length, get_or, All, AllPairs}
use Rattle.std.proofs.lemmas.Bool.{and_parts, eq-eqb, ltb-true}
use Rattle.std.proofs.lemmas.List.Sums.{get_or-le-sum_by}
use Rattle.std.proofs.lemmas.List.Elements.{All-head, All-tail, All-weaker}
use Rattle.lists.specs.Lists.{has}
use Rattle.plane_model.specs.Points.{Path, Segment}
use Rattle.plane_model.specs.Drawing.{Drawing}
use Rattle.plane_model.specs.Arcs.{SignedArc, joined_points, signed_arcs}
use Rattle.plane_model.specs.Arrangement.{IsArrangement}
use Rattle.arc_table.specs.Along.{GoAlong}
use Rattle.plane_model.specs.Snapped.{links_of, snapped}
use Rattle.plane_faces.specs.Places.{Place}
use Rattle.arc_table.specs.Around.{start_of}
use Rattle.face_walk.specs.Places.{FaceTable, face_left_of, place_of}
use Rattle.face_sets.specs.Boundary.{is_outward}
use Rattle.ring_trace.specs.Pairing.{stop_of}
use Rattle.face_sets.specs.Sets.{IsSetOf}
use Rattle.ring_trace.specs.Traced.{BeginsWithLeast, HasPolygonsOfParts, UsesBoundary, is_of_boundary, once_if, same_arc, times, times_round, times_traced}
use Rattle.ring_trace.specs.Turns.{MayStandBefore, round_of}
use Rattle.ring_trace.specs.Ways.{IsSimpleRing}
use Rattle.part_laws.specs.Parts.{AreTraced}
use Rattle.part_laws.proofs.PolygonLaws.{used_true}
use Rattle.part_laws.proofs.TracedLaws.{some_arc}
use Rattle.region_model.specs.Region.{Region, part}
use Rattle.region_model.specs.Answers.{Answers, AreRight}
use Rattle.region_model.specs.Printed.{Fits}
use Rattle.region_laws.specs.Answered.{plane_with}
use Rattle.region_laws.specs.Followed.{IsWalked}
use Rattle.region_laws.specs.Regions.{Follows}
use Rattle.region_laws.proofs.Fitting.{traces_fit}
use Rattle.line_laws.specs.Linked.{AreLinked, AreThere}
use Rattle.line_laws.specs.Linked as linked
use Rattle.line_laws.proofs.RunPieces.{map_alike}
use Rattle.run_texts.specs.Pictures.{points_along}
use Rattle.picture_laws.proofs.Along.{along_joined, along_round, way_linked}
use Rattle.picture_laws.proofs.Named.{arcs_named}

-- ---- the arcs of rings are there

all_there : (places : List ℕ) (many : ℕ) (set : List ℕ) (polygons : List (List (List SignedArc))) → UsesBoundary places many set polygons → All (All (All (λ a. a.arc < many))) polygons
all_there places many set polygons h k d l j e m i f n =
    let polygon = get_or polygons k d in
    let ring = get_or polygon j e in
    let a = get_or ring i f in
    let itself : once_if (same_arc a a) ≡ 1 = ap once_if (eq-eqb (place_of a) (place_of a) refl) in
    let in_ring : once_if (same_arc a a) ≤ times a ring = get_or-le-sum_by (λ (b : SignedArc). once_if (same_arc a b)) ring i f n in
    let in_polygon : times a ring ≤ times_round a polygon = get_or-le-sum_by (times a) polygon j e m in
    let in_all : times_round a polygon ≤ times_traced a polygons = get_or-le-sum_by (times_round a) polygons k d l in
    let used = h.once a in
    let told : is_of_boundary places many set a ≡ true = used_true (is_of_boundary places many set a) (omega arith) in
    ltb-true a.arc many (and_parts (nat_lt a.arc many) (has nat_eq set (face_left_of places a) && is_outward places set a) told).0

-- ---- paths of arcs that follow each other, drawn as points

module _ (S : List Segment) (arr : IsArrangement S) (arcs : List Path) (long : All (λ arc. 1 < length arc) arcs) (along : GoAlong S arcs) where
  pub paths_named : (paths : List (List SignedArc)) → All (AreThere arcs) paths → All (AreLinked arcs) paths → map (signed_arcs arcs) (map (points_along arcs) paths) ≡ paths
  paths_named [] there linked = refl
  paths_named (path ∷ paths) there linked =
      let here = All-head (AreThere arcs) path paths there in
      let one = All-head (AreLinked arcs) path paths linked in
      λ i. (ap (signed_arcs arcs) (along_joined arcs path one) ∙ arcs_named S arr arcs long along path here one) i
      ∷ paths_named paths (All-tail (AreThere arcs) path paths there) (All-tail (AreLinked arcs) path paths linked) i

pub paths_joined : (arcs : List Path) (paths : List (List SignedArc)) → All (AreLinked arcs) paths → map (points_along arcs) paths ≡ linked.points_along arcs paths
paths_joined arcs paths h = map_alike (points_along arcs) (joined_points arcs) paths (All-weaker (AreLinked arcs) (λ path. points_along arcs path ≡ joined_points arcs path) (along_joined arcs) paths h)

-- ---- the rings of a set

module _ (d : Drawing) (arcs : List Path) (faces : FaceTable) (label : Place → ℕ) (walked : IsWalked d arcs faces label) (set : List ℕ) (inner : IsSetOf faces set)
    (polygons : List (List (List SignedArc))) (boundary : UsesBoundary faces.places (length arcs) set polygons) (simple : All (All (IsSimpleRing (start_of arcs) (stop_of arcs))) polygons)
    (least_first : All (All BeginsWithLeast) polygons) (in_order : All (AllPairs (MayStandBefore arcs)) polygons) (of_parts : HasPolygonsOfParts faces (length arcs) set polygons) where
  there : All (All (All (λ a. a.arc < length arcs))) polygons
  there = all_there faces.places (length arcs) set polygons boundary

  pub are_traced : AreTraced arcs faces set of_parts.parts polygons
  are_traced = record { inner = inner; parted = of_parts.are_parts; there = there; least_first = least_first; simple = simple; in_order = in_order; used = of_parts.for_each }

  as_rounds : map (map (points_along arcs)) polygons ≡ map (map (round_of arcs)) polygons
  as_rounds = map_alike (map (points_along arcs)) (map (round_of arcs)) polygons (λ k e l.
      map_alike (points_along arcs) (round_of arcs) (get_or polygons k e) (λ j f m.
      along_round arcs walked.table.long (get_or (get_or polygons k e) j f) (some_arc (get_or (get_or polygons k e) j f) (least_first k e l j f m)) (there k e l j f m) (simple k e l j f m)))

  -- drawn as points they fit the region
  pub rings_fit : (r : Region) → Follows (snapped d) arcs label set r → (A : Answers) → AreRight (plane_with d arcs) A → Fits (plane_with d arcs) A r (map (map (points_along arcs)) polygons)
  rings_fit r follows A right =
      subst (Fits (plane_with d arcs) A r) (sym as_rounds)
      (traces_fit d arcs faces label walked set of_parts.parts polygons are_traced boundary r follows A (right.sides r) (λ j l. right.sides (part r j)) (right.parts r))

  all_linked : All (All (AreLinked arcs)) polygons
  all_linked k e l j f m =
      let ring = get_or (get_or polygons k e) j f in
      let one = simple k e l j f m in
      way_linked arcs walked.table.long one.at one.at ring (there k e l j f m) one.way

  -- and name the arcs that they are made of
  pub rings_named : map (map (signed_arcs arcs)) (map (map (points_along arcs)) polygons) ≡ polygons
  rings_named = each_named polygons (λ k e l. paths_named (links_of (snapped d)) walked.table.arrangement arcs walked.table.long walked.table.links (get_or polygons k e) (there k e l) (all_linked k e l))
    where
      each_named : (ps : List (List (List SignedArc))) → All (λ p. map (signed_arcs arcs) (map (points_along arcs) p) ≡ p) ps → map (map (signed_arcs arcs)) (map (map (points_along arcs)) ps) ≡ ps
      each_named [] h = refl
      each_named (p ∷ ps) h = λ i. All-head (λ q. map (signed_arcs arcs) (map (points_along arcs) q) ≡ q) p ps h i ∷ each_named ps (All-tail (λ q. map (signed_arcs arcs) (map (points_along arcs) q) ≡ q) p ps h) i
