-- The points that a layer of features holds, or a box, and the vertices that they see.
use Rattle.std.proofs.Common.{◌≡◌, ◌↔◌, sym, ◌∙◌, subst, arith, ℕ, ◌<◌, true, Some, List, [], ◌∷◌, Contains}
use Rattle.std.specs.Prelude.{slice_get}
use Rattle.std.specs.List.{list_any}
use Rattle.std.proofs.lemmas.List.Elements.{All-get_or}
use Rattle.std.proofs.lemmas.List.Folds.{Any-from_list_any}
use Rattle.lists.proofs.Members.{Contains-nil}
use Rattle.plane_model.specs.Points.{GridPoint, RationalPoint, Segment, Path}
use Rattle.plane_model.specs.Drawing.{Drawing, Polygon}
use Rattle.plane_model.specs.Parity.{feature_holds, links_of_paths, rings_hold}
use Rattle.plane_model.specs.Rotation.{Dart, odd_left_of}
use Rattle.plane_model.specs.Sees.{IsOffLinks}
use Rattle.plane_model.specs.Sides.{Points, IsInside}
use Rattle.plane_model.specs.Snapped.{links_of, snapped}
use Rattle.plane_model.proofs.PointOrder.{clash}
use Rattle.plane_snapping.proofs.SnappedLinks.{snapped_links_are_an_arrangement}
use Rattle.plane_parity.proofs.SnappedRings.{list_any_same}
use Rattle.plane_faces.specs.Places.{Place, outside, left_of, IsPlaceOf}
use Rattle.plane_faces.proofs.Connected.{parity_at_place}
use Rattle.plane_faces.proofs.Order.{place_exists}
use Rattle.face_walk.specs.Crossings.{outer_of}
use Rattle.face_walk.specs.Holders.{HolderTable, list_at}
use Rattle.face_walk.specs.Places.{FaceTable}
use Rattle.face_laws.specs.Faces.{IsFaceOfPlace}
use Rattle.face_laws.proofs.LabelLemmas.{each_table_has_labels}
use Rattle.point_laws.specs.Sight.{PointsOf}
use Rattle.point_laws.proofs.SightLemmas.{seeing_is_off}
use Rattle.point_laws.proofs.Vertices.{vertices_of_a_drawing}
use Rattle.line_laws.specs.Lines.{AreLaid, LeftSideIn}
use Rattle.line_laws.specs.Sources.{HasFacesOfBox, HasFacesOfLayer, PointsOfBox, PointsOfLayer, PointsAreOfLayers, PointsAreOfBoxes, VerticesInsideLayers, VerticesInsideBoxes}
use Rattle.line_laws.proofs.ArcsBetween.{counted_then_seen, polygon_even, seen_then_counted, there_is}
use Rattle.line_laws.proofs.LinkSides.{drawings_are_labelled, labels_agree, side_is_seen, side_of_dart}
use Rattle.line_laws.proofs.Sources.{box_even, box_side, boxed_by_count, layer_side}

module _ (d : Drawing) (arcs : List Path) (faces : FaceTable) (labels : HolderTable) (laid : AreLaid d arcs faces labels) (label : Place → ℕ) (by : IsFaceOfPlace arcs faces label) where
  side_by_label : (set : List ℕ) (e : Dart) → Contains (links_of (snapped d)) e.link → LeftSideIn (links_of (snapped d)) (PointsOf (links_of (snapped d)) label set) e ↔ Contains set (label (left_of e))
  side_by_label set e c =
      let s = snapped_links_are_an_arrangement d in
      side_of_dart (links_of (snapped d)) s.0 s.1 label (labels_agree (links_of (snapped d)) arcs faces label (drawings_are_labelled d arcs laid.table faces laid.built label by)) set e c

  outer_below : outer_of faces < faces.count
  outer_below = let many = laid.built.places_counted in All-get_or (λ f. f < faces.count) faces.places 0 0 (omega arith) laid.below

  -- ---- layers

  -- a feature holds a point left of a link exactly if it holds that side of the link, and none holds a point left of
  -- all
  held_beside : (feature : List Polygon) → Contains (snapped d).polygons feature → (z : RationalPoint) (e : Dart) → IsPlaceOf (links_of (snapped d)) z (left_of e)
      → feature_holds z feature ≡ list_any (λ (polygon : Polygon). odd_left_of (links_of_paths polygon) e) feature
  held_beside feature c z e here =
      list_any_same (rings_hold z) (λ (polygon : Polygon). odd_left_of (links_of_paths polygon) e) feature
      (λ polygon k. let even = polygon_even d laid.drawn feature c polygon k in parity_at_place (links_of (snapped d)) (links_of_paths polygon) (snapped_links_are_an_arrangement d).0 even.within even.even z (left_of e) here)

  none_outside : (feature : List Polygon) → Contains (snapped d).polygons feature → (z : RationalPoint) → IsPlaceOf (links_of (snapped d)) z outside → feature_holds z feature ≡ true → ⊥
  none_outside feature c z here h =
      let (i, polygon, l, at, holds) = Any-from_list_any (rings_hold z) feature h in
      let even = polygon_even d laid.drawn feature c polygon (i, l, at) in
      clash (rings_hold z polygon) holds (parity_at_place (links_of (snapped d)) (links_of_paths polygon) (snapped_links_are_an_arrangement d).0 even.within even.even z outside here)

  none_outer : (number : ℕ) → Contains (list_at labels.holders (outer_of faces)) number → ⊥
  none_outer number c =
      let (i, listed, owner) = ((laid.holders.owned (outer_of faces) outer_below).each number).0 c in
      Contains-nil i (subst (λ (list : List ℕ). Contains list i) laid.holders.held.outer_free listed)

  layer_at : (layer set : List ℕ) → HasFacesOfLayer faces.count labels layer set → (z : RationalPoint) (a : Place) → IsPlaceOf (links_of (snapped d)) z a → Contains set (label a) ↔ PointsOfLayer (snapped d).polygons layer z
  layer_at layer set has_faces z outside here = (
    λ c.
        let (number, listed, holds) = (has_faces (outer_of faces) outer_below).0 (subst (Contains set) by.outside_all c) in
        absurd (none_outer number holds),
    λ h.
        let (number, listed, feature, found, inside) = h in
        absurd (none_outside feature (there_is (snapped d).polygons number feature found) z here inside),
  )
  layer_at layer set has_faces z (left_of e) here =
      let side = side_by_label set e here.1 in
      let of_layer = layer_side d arcs faces labels laid label by layer set has_faces e here.1 in (
        λ c.
            let (w, sees, held) = of_layer.0 (side.1 c) in
            let (number, listed, feature, found, inside) = held in
            let there = there_is (snapped d).polygons number feature found in
            (number, listed, feature, found, held_beside feature there z e here ∙ seen_then_counted d laid.drawn feature there e here.1 w sees inside),
        λ h.
            let (number, listed, feature, found, inside) = h in
            let there = there_is (snapped d).polygons number feature found in
            let (w, sees, held) = counted_then_seen d laid.drawn feature there e here.1 (sym (held_beside feature there z e here) ∙ inside) in
            side.0 (of_layer.1 (w, sees, (number, listed, feature, found, held))),
      )

  -- ---- boxes

  boxed_at : (number : ℕ) (box : Path) → slice_get (snapped d).boxes number ≡ Some box → (z : RationalPoint) (e : Dart) → IsPlaceOf (links_of (snapped d)) z (left_of e) → rings_hold z (box ∷ []) ≡ odd_left_of (links_of_paths (box ∷ [])) e
  boxed_at number box found z e here =
      let even = box_even d arcs faces labels laid label by number box found in
      parity_at_place (links_of (snapped d)) (links_of_paths (box ∷ [])) (snapped_links_are_an_arrangement d).0 even.within even.even z (left_of e) here

  box_at : (number : ℕ) (set : List ℕ) → HasFacesOfBox faces.count labels number set → (z : RationalPoint) (a : Place) → IsPlaceOf (links_of (snapped d)) z a → Contains set (label a) ↔ PointsOfBox (snapped d).boxes number z
  box_at number set has_faces z outside here = (
    λ c.
        let holds = (has_faces (outer_of faces) outer_below).0 (subst (Contains set) by.outside_all c) in
        Contains-nil number (subst (λ (list : List ℕ). Contains list number) laid.holders.boxed.outer_free holds),
    λ h.
        let (box, found, inside) = h in
        let even = box_even d arcs faces labels laid label by number box found in
        absurd (clash (rings_hold z (box ∷ [])) inside (parity_at_place (links_of (snapped d)) (links_of_paths (box ∷ [])) (snapped_links_are_an_arrangement d).0 even.within even.even z outside here)),
  )
  box_at number set has_faces z (left_of e) here =
      let side = side_by_label set e here.1 in
      let of_box = box_side d arcs faces labels laid label by number set has_faces e here.1 in (
        λ c.
            let (w, sees, held) = of_box.0 (side.1 c) in
            let (box, found, inside) = held in
            (box, found, boxed_at number box found z e here ∙ sym (boxed_by_count d arcs faces labels laid label by number box found e.forward e.link here.1 w sees) ∙ inside),
        λ h.
            let (box, found, inside) = h in
            let (w, sees) = side_is_seen (links_of (snapped d)) (snapped_links_are_an_arrangement d).0 e.forward e.link here.1 in
            side.0 (of_box.1 (w, sees, (box, found, boxed_by_count d arcs faces labels laid label by number box found e.forward e.link here.1 w sees ∙ sym (boxed_at number box found z e here) ∙ inside))),
      )

-- ---- off the links

-- where what a set has at a place is what a region has of the points there, the points of the set are those of the
-- region
pub off_links : (S : List Segment) (label : Place → ℕ) (set : List ℕ) (R : Points) (z : RationalPoint) → IsOffLinks S z → (a : Place) → IsPlaceOf S z a → ((b : Place) → IsPlaceOf S z b → Contains set (label b) ↔ R z) → PointsOf S label set z ↔ R z
off_links S label set R z off a here same = (
  λ h. let (beside, placed) = h in let (b, there, c) = placed in (same b there).0 c,
  λ r. (off, (a, here, (same a here).1 r)),
)

pub points_are_of_layers : PointsAreOfLayers
points_are_of_layers d arcs faces labels laid label by layer set has_faces z off =
    let S : List Segment = links_of (snapped d) in
    let (a, here) = place_exists S (snapped_links_are_an_arrangement d).0 z in
    off_links S label set (PointsOfLayer (snapped d).polygons layer) z off a here (layer_at d arcs faces labels laid label by layer set has_faces z)

pub points_are_of_boxes : PointsAreOfBoxes
points_are_of_boxes d arcs faces labels laid label by number set has_faces z off =
    let S : List Segment = links_of (snapped d) in
    let (a, here) = place_exists S (snapped_links_are_an_arrangement d).0 z in
    off_links S label set (PointsOfBox (snapped d).boxes number) z off a here (box_at d arcs faces labels laid label by number set has_faces z)

-- ---- vertices

-- regions that have the same points off the links are seen by the same points
pub inside_alike : (S : List Segment) (Q R : Points) → ((z : RationalPoint) → IsOffLinks S z → Q z ↔ R z) → (p : GridPoint) → IsInside S Q p ↔ IsInside S R p
inside_alike S Q R same p = (
  λ h. let (z, sees, there) = h in (z, sees, (same z (seeing_is_off S p z sees)).0 there),
  λ h. let (z, sees, there) = h in (z, sees, (same z (seeing_is_off S p z sees)).1 there),
)

pub vertices_inside_layers : VerticesInsideLayers
vertices_inside_layers d arcs faces labels laid layer set has_faces p vertex inside is =
    let S : List Segment = links_of (snapped d) in
    let (label, by) = each_table_has_labels S (snapped_links_are_an_arrangement d).0 arcs laid.table.links faces in
    let answered = vertices_of_a_drawing d arcs laid.table.long laid.table.links laid.table.whole faces laid.built label by set p vertex inside is in
    let alike = inside_alike S (PointsOf S label set) (PointsOfLayer (snapped d).polygons layer) (points_are_of_layers d arcs faces labels laid label by layer set has_faces) p in
    (λ e. alike.0 (answered.0 e), λ h. answered.1 (alike.1 h))

pub vertices_inside_boxes : VerticesInsideBoxes
vertices_inside_boxes d arcs faces labels laid number set has_faces p vertex inside is =
    let S : List Segment = links_of (snapped d) in
    let (label, by) = each_table_has_labels S (snapped_links_are_an_arrangement d).0 arcs laid.table.links faces in
    let answered = vertices_of_a_drawing d arcs laid.table.long laid.table.links laid.table.whole faces laid.built label by set p vertex inside is in
    let alike = inside_alike S (PointsOf S label set) (PointsOfBox (snapped d).boxes number) (points_are_of_boxes d arcs faces labels laid label by number set has_faces) p in
    (λ e. alike.0 (answered.0 e), λ h. answered.1 (alike.1 h))
