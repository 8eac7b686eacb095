-- The sides of links that belong to a layer of features, or to a box.
use Rattle.std.proofs.Common.{◌≡◌, ◌↔◌, inl, inr, sym, ap, ◌∙◌, subst, arith, ℕ, ◌<◌, Bool, true, false, Some, List, [], ◌∷◌, map, length, get_or, All, Contains}
use Rattle.std.specs.Prelude.{slice_get}
use Rattle.std.proofs.lemmas.List.{get_or-map, length-map}
use Rattle.std.proofs.lemmas.Option.{get_or_from_slice_get, slice_get-get_or, slice_get_within}
use Rattle.plane_model.specs.Points.{RationalPoint, Segment, Path}
use Rattle.plane_model.specs.Arcs.{SignedArc, forward, backward}
use Rattle.plane_model.specs.Arrangement.{IsArrangement}
use Rattle.plane_model.specs.Drawing.{Drawing, steps}
use Rattle.plane_model.specs.EvenList.{IsEvenListOf}
use Rattle.plane_model.specs.Parity.{links_of_paths, rings_hold}
use Rattle.plane_model.specs.Rotation.{Dart, odd_left_of}
use Rattle.plane_model.specs.Sides.{Points}
use Rattle.plane_model.specs.Snapped.{links_of, snapped}
use Rattle.plane_snapping.proofs.SnappedLinks.{snapped_links_are_an_arrangement}
use Rattle.plane_parity.proofs.Sight.{sight_from_left, sight_from_right}
use Rattle.plane_faces.specs.Places.{Place}
use Rattle.plane_faces.specs.Rings.{dart_of_step, darts_of_path}
use Rattle.arc_table.specs.Along.{GoAlong}
use Rattle.face_walk.specs.Holders.{HolderTable, list_at}
use Rattle.face_walk.specs.Places.{FaceTable, face_left_of}
use Rattle.face_laws.specs.Faces.{IsFaceOfPlace, SeesSide, directed_as}
use Rattle.face_laws.specs.Holders.{FeaturesHoldLeftOf, HoldLeftOf}
use Rattle.face_laws.proofs.DartLemmas.{one_of_two}
use Rattle.face_laws.proofs.HoldingLemmas.{boxes_sound}
use Rattle.face_laws.proofs.LabelLemmas.{each_table_has_labels}
use Rattle.face_laws.proofs.SideLemmas.{features_beside_arcs}
use Rattle.face_laws.proofs.StepLemmas.{step_of_link}
use Rattle.point_laws.specs.Sight.{PointsOf}
use Rattle.line_laws.specs.Lines.{AreLaid, LeftSideIn, TestsInside}
use Rattle.line_laws.specs.Sources.{HasFacesOfBox, HasFacesOfLayer, PointsOfBox, PointsOfLayer, SidesOfLayers, SidesOfBoxes, LinesCutByLayers, LinesCutByBoxes}
use Rattle.line_laws.proofs.ArcsBetween.{counted_then_seen, face_below, seen_then_counted, there_is}
use Rattle.line_laws.proofs.LinkSides.{drawings_are_labelled, side_is_seen, sides_of_arcs}
use Rattle.line_laws.proofs.PathRuns.{line_features_are_cut}

-- ---- the signed arc along a directed link

-- the dart is that of a step of a signed arc, directed as the arc
record GoesAlong (arcs : List Path) (e : Dart) (a : SignedArc) (j : ℕ) : Type 0 where
  there : a.arc < length arcs
  within : j < length (darts_of_path (get_or arcs a.arc []))
  is : directed_as a (get_or (darts_of_path (get_or arcs a.arc [])) j e) ≡ e

arc_along : (S : List Segment) (arr : IsArrangement S) (arcs : List Path) (long : All (λ arc. 1 < length arc) arcs) (along : GoAlong S arcs) (e : Dart) → Contains S e.link → (a : SignedArc) × (j : ℕ) × GoesAlong arcs e a j
arc_along S arr arcs long along e c =
    let (n, j, s, step, is_link) = step_of_link arcs S arr long along e.link c in
    let ss = steps (get_or arcs n []) in
    let many = length-map ss dart_of_step in
    let l = step.there in
    let at_j : get_or (map dart_of_step ss) j e ≡ dart_of_step s = get_or-map dart_of_step ss j s e l ∙ ap dart_of_step step.is in
    elim (one_of_two s e (sym is_link)) [
      | inl f ↦ (forward n, j, record { there = step.arc; within = omega arith; is = at_j ∙ sym f })
      | inr f ↦ (backward n, j, record { there = step.arc; within = omega arith; is = ap (directed_as (backward n)) at_j ∙ sym f })
    ]

-- ---- the face on a side

-- k is the face on the left of a directed link: a set has points there exactly if it has k, and the lists of k have the
-- features and the boxes that hold that side
record IsFaceAt (d : Drawing) (faces : FaceTable) (labels : HolderTable) (label : Place → ℕ) (e : Dart) (k : ℕ) : Type 0 where
  below : k < faces.count
  of_set : (set : List ℕ) → LeftSideIn (links_of (snapped d)) (PointsOf (links_of (snapped d)) label set) e ↔ Contains set k
  features : FeaturesHoldLeftOf (snapped d).polygons (list_at labels.holders k) e
  boxes : HoldLeftOf (map (λ (path : Path). path ∷ []) (snapped d).boxes) (list_at labels.boxes k) e

module _ (d : Drawing) (arcs : List Path) (faces : FaceTable) (labels : HolderTable) (laid : AreLaid d arcs faces labels) (label : Place → ℕ) (by : IsFaceOfPlace arcs faces label) where
  face_at : (e : Dart) → Contains (links_of (snapped d)) e.link → (k : ℕ) × IsFaceAt d faces labels label e k
  face_at e c =
      let (a, j, g) = arc_along (links_of (snapped d)) (snapped_links_are_an_arrangement d).0 arcs laid.table.long laid.table.links e c in
      let low = face_below arcs faces laid.built laid.below a g.there in
      let held = features_beside_arcs d laid.drawn arcs laid.table faces laid.built labels laid.holders a g.there low j e g.within in
      let ok = drawings_are_labelled d arcs laid.table faces laid.built label by in (
        face_left_of faces.places a,
        record {
          below = low;
          of_set = λ set. subst (λ (x : Dart). LeftSideIn (links_of (snapped d)) (PointsOf (links_of (snapped d)) label set) x ↔ Contains set (face_left_of faces.places a)) g.is
              (sides_of_arcs (links_of (snapped d)) arcs faces label ok set a g.there j e g.within).0;
          features = subst (FeaturesHoldLeftOf (snapped d).polygons (list_at labels.holders (face_left_of faces.places a))) g.is held.0;
          boxes = subst (HoldLeftOf (map (λ (path : Path). path ∷ []) (snapped d).boxes) (list_at labels.boxes (face_left_of faces.places a))) g.is held.1;
        },
      )

  -- ---- layers

  pub layer_side : (layer set : List ℕ) → HasFacesOfLayer faces.count labels layer set → (e : Dart) → Contains (links_of (snapped d)) e.link →
      LeftSideIn (links_of (snapped d)) (PointsOf (links_of (snapped d)) label set) e ↔ LeftSideIn (links_of (snapped d)) (PointsOfLayer (snapped d).polygons layer) e
  layer_side layer set has_faces e c =
      let (k, face) = face_at e c in (
        λ h.
            let (number, listed, holds) = (has_faces k face.below).0 ((face.of_set set).0 h) in
            let (feature, found, counted) = (face.features number).0 holds in
            let (z, sees, inside) = counted_then_seen d laid.drawn feature (there_is (snapped d).polygons number feature found) e c counted in
            (z, sees, (number, listed, feature, found, inside)),
        λ h.
            let (z, sees, of_layer) = h in
            let (number, listed, feature, found, inside) = of_layer in
            let holds = (face.features number).1 (feature, found, seen_then_counted d laid.drawn feature (there_is (snapped d).polygons number feature found) e c z sees inside) in
            (face.of_set set).1 ((has_faces k face.below).1 (number, listed, holds)),
      )

  -- ---- boxes

  -- a box among the boxes as lists of one path
  from_listed : (number : ℕ) (box : Path) → slice_get (snapped d).boxes number ≡ Some box → slice_get (map (λ (path : Path). path ∷ []) (snapped d).boxes) number ≡ Some (box ∷ [])
  from_listed number box found =
      let many = length-map (snapped d).boxes (λ (path : Path). path ∷ []) in
      let within = slice_get_within (snapped d).boxes number box found in
      slice_get-get_or (map (λ (path : Path). path ∷ []) (snapped d).boxes) number [] (omega arith)
      ∙ ap Some (get_or-map (λ (path : Path). path ∷ []) (snapped d).boxes number box [] within ∙ ap (λ (path : Path). path ∷ []) (get_or_from_slice_get (snapped d).boxes number box box found))

  as_listed : (number : ℕ) (paths : List Path) → slice_get (map (λ (path : Path). path ∷ []) (snapped d).boxes) number ≡ Some paths → (box : Path) × (slice_get (snapped d).boxes number ≡ Some box) × (box ∷ [] ≡ paths)
  as_listed number paths found =
      let many = length-map (snapped d).boxes (λ (path : Path). path ∷ []) in
      let within = slice_get_within (map (λ (path : Path). path ∷ []) (snapped d).boxes) number paths found in (
        get_or (snapped d).boxes number [],
        slice_get-get_or (snapped d).boxes number [] (omega arith),
        sym (get_or-map (λ (path : Path). path ∷ []) (snapped d).boxes number [] paths (omega arith)) ∙ get_or_from_slice_get (map (λ (path : Path). path ∷ []) (snapped d).boxes) number paths paths found,
      )

  pub box_even : (number : ℕ) (box : Path) → slice_get (snapped d).boxes number ≡ Some box → IsEvenListOf (links_of (snapped d)) (links_of_paths (box ∷ []))
  box_even number box found = (boxes_sound (snapped d) laid.drawn number (box ∷ []) (from_listed number box found)).even

  -- what sees a side of a link is in a box exactly if the side is, by its count
  pub boxed_by_count : (number : ℕ) (box : Path) → slice_get (snapped d).boxes number ≡ Some box → (b : Bool) (l : Segment) → Contains (links_of (snapped d)) l → (z : RationalPoint) → SeesSide (links_of (snapped d)) b l z
      → rings_hold z (box ∷ []) ≡ odd_left_of (links_of_paths (box ∷ [])) (record { link = l; forward = b })
  boxed_by_count number box found b l c z sees = go b sees
    where
      even : IsEvenListOf (links_of (snapped d)) (links_of_paths (box ∷ []))
      even = box_even number box found

      go : (f : Bool) → SeesSide (links_of (snapped d)) f l z → rings_hold z (box ∷ []) ≡ odd_left_of (links_of_paths (box ∷ [])) (record { link = l; forward = f })
      go true s = sight_from_left (links_of (snapped d)) (links_of_paths (box ∷ [])) (snapped_links_are_an_arrangement d).0 even.within even.even l c z s
      go false s = sight_from_right (links_of (snapped d)) (links_of_paths (box ∷ [])) (snapped_links_are_an_arrangement d).0 even.within even.even l c z s

  pub box_side : (number : ℕ) (set : List ℕ) → HasFacesOfBox faces.count labels number set → (e : Dart) → Contains (links_of (snapped d)) e.link →
      LeftSideIn (links_of (snapped d)) (PointsOf (links_of (snapped d)) label set) e ↔ LeftSideIn (links_of (snapped d)) (PointsOfBox (snapped d).boxes number) e
  box_side number set has_faces e c =
      let (k, face) = face_at e c in (
        λ h.
            let (paths, listed, counted) = (face.boxes number).0 ((has_faces k face.below).0 ((face.of_set set).0 h)) in
            let (box, found, same) = as_listed number paths listed in
            let odd_here : odd_left_of (links_of_paths (box ∷ [])) e ≡ true = ap (λ (ps : List Path). odd_left_of (links_of_paths ps) e) same ∙ counted in
            let (z, sees) = side_is_seen (links_of (snapped d)) (snapped_links_are_an_arrangement d).0 e.forward e.link c in
            (z, sees, (box, found, boxed_by_count number box found e.forward e.link c z sees ∙ odd_here)),
        λ h.
            let (z, sees, of_box) = h in
            let (box, found, inside) = of_box in
            let holds = (face.boxes number).1 (box ∷ [], from_listed number box found, sym (boxed_by_count number box found e.forward e.link c z sees) ∙ inside) in
            (face.of_set set).1 ((has_faces k face.below).1 holds),
      )

pub sides_of_layers : SidesOfLayers
sides_of_layers d arcs faces labels laid label by layer set has_faces e c = layer_side d arcs faces labels laid label by layer set has_faces e c

pub sides_of_boxes : SidesOfBoxes
sides_of_boxes d arcs faces labels laid label by number set has_faces e c = box_side d arcs faces labels laid label by number set has_faces e c

-- ---- lines

-- where two regions have the same sides of links, a test of what is inside one tests what is inside the other
tests_alike : (S : List Segment) (Q R : Points) (test : Segment → Bool) → ((e : Dart) → Contains S e.link → LeftSideIn S Q e ↔ LeftSideIn S R e) → TestsInside S R test → TestsInside S Q test
tests_alike S Q R test same tests l c =
    let left = same (record { link = l; forward = true }) c in
    let right = same (record { link = l; forward = false }) c in (
      λ e. elim ((tests l c).0 e) [ inl i ↦ inl (left.1 i) | inr i ↦ inr (right.1 i) ],
      λ s. (tests l c).1 (elim s [ inl i ↦ inl (left.0 i) | inr i ↦ inr (right.0 i) ]),
    )

pub lines_cut_by_layers : LinesCutByLayers
lines_cut_by_layers d arcs faces labels laid layer set has_faces lines named h test tests =
    let S : List Segment = links_of (snapped d) in
    let (label, by) = each_table_has_labels S (snapped_links_are_an_arrangement d).0 arcs laid.table.links faces in
    line_features_are_cut d laid.drawn arcs laid.table faces laid.built label by set lines named h test
    (tests_alike S (PointsOf S label set) (PointsOfLayer (snapped d).polygons layer) test (layer_side d arcs faces labels laid label by layer set has_faces) tests)

pub lines_cut_by_boxes : LinesCutByBoxes
lines_cut_by_boxes d arcs faces labels laid number set has_faces lines named h test tests =
    let S : List Segment = links_of (snapped d) in
    let (label, by) = each_table_has_labels S (snapped_links_are_an_arrangement d).0 arcs laid.table.links faces in
    line_features_are_cut d laid.drawn arcs laid.table faces laid.built label by set lines named h test
    (tests_alike S (PointsOf S label set) (PointsOfBox (snapped d).boxes number) test (box_side d arcs faces labels laid label by number set has_faces) tests)
