-- The features and the boxes in the lists of a face are those that hold the sides of links that lie in it.
use Rattle.std.proofs.Common.{◌≡◌, inl, inr, refl, sym, subst, ◌∙◌, arith, ℕ, ◌<◌, ◌≤◌, Bool, true, false, cond, Some, List, [], ◌∷◌, All, Contains, length, get_or, map}
use Rattle.std.specs.Prelude.{◌↔◌, slice_get}
use Rattle.std.proofs.lemmas.Bool.{cases_lt}
use Rattle.std.proofs.lemmas.List.{get_or-map, length-map}
use Rattle.std.proofs.lemmas.Option.{slice_get-get_or}
use Rattle.lists.specs.Lists.{joined_up}
use Rattle.plane_model.specs.Points.{Segment, Path}
use Rattle.plane_model.specs.Drawing.{Drawing, Polygon, steps as steps_of}
use Rattle.plane_model.specs.Arrangement.{IsArrangement, IsDistinct}
use Rattle.plane_model.specs.Parity.{links_of_paths}
use Rattle.plane_model.specs.Rotation.{Dart, odd_left_of}
use Rattle.plane_model.specs.Snapped.{links_of, snapped}
use Rattle.plane_snapping.proofs.SnappedLinks.{snapped_links_are_an_arrangement}
use Rattle.plane_parity.proofs.SnappedRings.{closed_runs_are_even_lists}
use Rattle.plane_faces.specs.Around.{opposite}
use Rattle.plane_faces.specs.Labels.{IsFaceLabelling}
use Rattle.plane_faces.specs.Places.{Place, outside, left_of, IsBeside, odd_at}
use Rattle.plane_faces.specs.Rings.{dart_of_step}
use Rattle.arc_table.specs.Along.{GoAlong}
use Rattle.arc_table.specs.PathArcs.{AreArcsOf}
use Rattle.face_walk.specs.Crossings.{AreCrossings, LeaveNone, outer_of}
use Rattle.face_walk.specs.Holders.{AreHeldBy, list_at, stands_oddly}
use Rattle.face_walk.specs.Places.{FaceTable, IsBuiltOf, face_left_of}
use Rattle.face_walk.specs.RingSteps.{AreStepsOf}
use Rattle.face_walk.specs.declared.crossings.Crossing.{Crossing}
use Rattle.face_walk.specs.declared.ring_steps.RingStep.{RingStep}
use Rattle.face_walk.proofs.OddLemmas.{stands_once, stands_there}
use Rattle.face_laws.specs.Faces.{IsFaceOfPlace, directed_as}
use Rattle.face_laws.specs.Holders.{FeaturesBesideArcs}
use Rattle.face_laws.proofs.ClassLemmas.{faces_are_classes}
use Rattle.face_laws.proofs.FeatureLemmas.{owners_with}
use Rattle.face_laws.proofs.HolderLemmas.{each_reached, odd_of_place}
use Rattle.face_laws.proofs.HoldingLemmas.{IsSound, boxes_sound, polygons_sound, rising_at}
use Rattle.face_laws.proofs.ItemLemmas.{none_along, steps_are_along}
use Rattle.face_laws.proofs.LabelLemmas.{each_table_has_labels}
use Rattle.face_laws.proofs.PointLemmas.{whole_are_free}
use Rattle.face_laws.proofs.StepLemmas.{arc_of, step_at, step_on}

none_odd : (a : Place) → odd_at [] a ≡ false
none_odd outside = refl
none_odd (left_of d) = go d.forward
  where
    go : (b : Bool) → cond b false false ≡ false
    go true = refl
    go false = refl

-- ---- at a place

module _ (s : Drawing) (arr : IsArrangement (links_of s)) (distinct : IsDistinct (links_of s)) (arcs : List Path) (table : AreArcsOf s arcs) (faces : FaceTable) (built : IsBuiltOf arcs faces)
    (label : Place → ℕ) (by : IsFaceOfPlace arcs faces label) (labelling : IsFaceLabelling (links_of s) label)
    (crossings : List Crossing) (are : AreCrossings faces crossings) (closed : LeaveNone faces crossings)
    (items : List (List Path)) (sound : (i : ℕ) (paths : List Path) → slice_get items i ≡ Some paths → IsSound s paths)
    (steps : List RingStep) (of_items : AreStepsOf arcs items steps) (held : List (List ℕ)) (lists : AreHeldBy steps (outer_of faces) crossings held)
    (a : Place) (beside : IsBeside (links_of s) a) where
  by_parity : (i : ℕ) (paths : List Path) → slice_get items i ≡ Some paths → stands_oddly (list_at held (label a)) i ≡ odd_at (links_of_paths paths) a
  by_parity i paths found =
      let ok = sound i paths found in
      odd_of_place (links_of s) arr distinct arcs table.long table.links faces built.places_counted label by labelling crossings are closed steps held lists i (links_of_paths paths) ok.even
      (steps_are_along (links_of s) arr arcs table.long table.links s table items steps of_items i paths found ok.drawn) a beside

  past : (i : ℕ) → length items ≤ i → stands_oddly (list_at held (label a)) i ≡ false
  past i l = odd_of_place (links_of s) arr distinct arcs table.long table.links faces built.places_counted label by labelling crossings are closed steps held lists i []
      (closed_runs_are_even_lists (links_of s) [] (λ k d m. absurd (omega arith))) (none_along arcs items steps of_items i l) a beside ∙ none_odd a

  there_is_odd : (i : ℕ) → Contains (list_at held (label a)) i → stands_oddly (list_at held (label a)) i ≡ true
  there_is_odd i c =
      stands_once (list_at held (label a))
      (rising_at steps (outer_of faces) crossings held lists (length crossings) (label a)
      (each_reached (links_of s) arr distinct arcs table.long table.links faces built.places_counted label by labelling crossings are closed a beside)) i c

  -- the list of its label has just the items that hold the place
  pub held_at_place : (i : ℕ) → Contains (list_at held (label a)) i ↔ ((paths : List Path) × (slice_get items i ≡ Some paths) × (odd_at (links_of_paths paths) a ≡ true))
  held_at_place i = (to, from)
    where
      to : Contains (list_at held (label a)) i → (paths : List Path) × (slice_get items i ≡ Some paths) × (odd_at (links_of_paths paths) a ≡ true)
      to c = elim (cases_lt i (length items)) [
        | inl less ↦ (let found = slice_get-get_or items i [] less in (get_or items i [], found, sym (by_parity i (get_or items i []) found) ∙ there_is_odd i c))
        | inr more ↦ absurd (let e : true ≡ false = sym (there_is_odd i c) ∙ past i more in cc)
      ]

      from : (paths : List Path) × (slice_get items i ≡ Some paths) × (odd_at (links_of_paths paths) a ≡ true) → Contains (list_at held (label a)) i
      from (paths, found, holds) = stands_there (list_at held (label a)) i (by_parity i paths found ∙ holds)

-- ---- beside an arc

module _ (S : List Segment) (arr : IsArrangement S) (arcs : List Path) (table_long : All (λ arc. 1 < length arc) arcs) (along : GoAlong S arcs) (faces : FaceTable) (label : Place → ℕ) (by : IsFaceOfPlace arcs faces label)
    (n : ℕ) (below : n < length arcs) (j : ℕ) (e : Dart) (there : j < length (map dart_of_step (steps_of (arc_of arcs n)))) where
  abbrev dart : Dart
  dart = get_or (map dart_of_step (steps_of (arc_of arcs n))) j e

  pub dart_there : (b : Bool) → Contains S (cond b (opposite dart) dart).link
  dart_there b = go b
    where
      on : Contains S dart.link
      on =
          let many = length-map (steps_of (arc_of arcs n)) dart_of_step in
          let step = step_at arcs n j e.link below (omega arith) in
          let is : dart ≡ dart_of_step (get_or (steps_of (arc_of arcs n)) j e.link) = get_or-map dart_of_step (steps_of (arc_of arcs n)) j e.link e (omega arith) in
          subst (λ (c : Dart). Contains S c.link) (sym is) (step_on arcs S arr table_long along n j (get_or (steps_of (arc_of arcs n)) j e.link) step)

      go : (c : Bool) → Contains S (cond c (opposite dart) dart).link
      go true = on
      go false = on

  pub label_there : (b : Bool) → label (left_of (cond b (opposite dart) dart)) ≡ face_left_of faces.places (record { arc = n; is_reversed = b })
  label_there true = by.right n below j e there
  label_there false = by.left n below j e there

pub features_beside_arcs : FeaturesBesideArcs
features_beside_arcs d has arcs table faces built labels h a below counted j e there =
    let s = snapped_links_are_an_arrangement d in
    let S : List Segment = links_of (snapped d) in
    let (label, by) = each_table_has_labels S s.0 arcs table.links faces in
    let labelling = faces_are_classes S s.0 arcs table.long table.links (whole_are_free (snapped d) arcs table.whole) faces built label by in
    let side : Dart = directed_as a (dart S s.0 arcs table.long table.links faces label by a.arc below j e there) in
    let on : Contains S side.link = dart_there S s.0 arcs table.long table.links faces label by a.arc below j e there a.is_reversed in
    let is_f : label (left_of side) ≡ face_left_of faces.places a = label_there S s.0 arcs table.long table.links faces label by a.arc below j e there a.is_reversed in
    let polygons = held_at_place (snapped d) s.0 s.1 arcs table faces built label by labelling h.crossings h.crossed h.all (joined_up (snapped d).polygons) (polygons_sound (snapped d) has)
    h.polygon_steps h.of_polygons h.polygons h.held (left_of side) on in
    let boxes = held_at_place (snapped d) s.0 s.1 arcs table faces built label by labelling h.crossings h.crossed h.all (map (λ (path : Path). path ∷ []) (snapped d).boxes) (boxes_sound (snapped d) has)
    h.box_steps h.of_boxes labels.boxes h.boxed (left_of side) on in (
      owners_with (λ (polygon : Polygon). odd_left_of (links_of_paths polygon) side) (snapped d).polygons (list_at h.polygons (face_left_of faces.places a)) (list_at labels.holders (face_left_of faces.places a))
          (λ i. subst (λ (f : ℕ). Contains (list_at h.polygons f) i ↔ ((polygon : Polygon) × (slice_get (joined_up (snapped d).polygons) i ≡ Some polygon) × (odd_left_of (links_of_paths polygon) side ≡ true))) is_f (polygons i))
          (h.owned (face_left_of faces.places a) counted),
      λ i. subst (λ (f : ℕ). Contains (list_at labels.boxes f) i ↔ ((paths : List Path) × (slice_get (map (λ (path : Path). path ∷ []) (snapped d).boxes) i ≡ Some paths) × (odd_left_of (links_of_paths paths) side ≡ true))) is_f (boxes i),
    )
