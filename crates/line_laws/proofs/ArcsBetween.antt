-- The arcs between regions that sets of faces stand for.
use Rattle.std.proofs.Common.{◌≡◌, ◌↔◌, sym, ap, ◌∙◌, subst, arith, ℕ, ◌<◌, Bool, true, false, nat_eq, Some, List, [], length, get_or, All, Contains, nat_lt}
use Rattle.std.specs.Prelude.{slice_get}
use Rattle.std.specs.List.{list_any}
use Rattle.std.proofs.lemmas.List.Elements.{All-get_or}
use Rattle.std.proofs.lemmas.Option.{get_or_from_slice_get, slice_get-get_or, slice_get_within}
use Rattle.lists.specs.Lists.{has, joined_up}
use Rattle.lists.proofs.Ascending.{one_ascending}
use Rattle.lists.proofs.Members.{Contains-joined_up}
use Rattle.plane_model.specs.Points.{RationalPoint, Segment, Path}
use Rattle.plane_model.specs.Arcs.{SignedArc, forward, backward}
use Rattle.plane_model.specs.Drawing.{Drawing, Polygon}
use Rattle.plane_model.specs.EvenList.{IsEvenListOf}
use Rattle.plane_model.specs.Parity.{feature_holds, links_of_paths, rings_hold}
use Rattle.plane_model.specs.Rotation.{Dart, odd_left_of}
use Rattle.plane_model.specs.Sides.{Points}
use Rattle.plane_model.specs.Snapped.{links_of, snapped}
use Rattle.plane_snapping.proofs.SnappedLinks.{snapped_links_are_an_arrangement}
use Rattle.plane_parity.proofs.Sight.{sight_from_left, sight_from_right}
use Rattle.plane_parity.proofs.SnappedRings.{list_any_same}
use Rattle.plane_faces.specs.Around.{opposite}
use Rattle.plane_faces.specs.Places.{Place}
use Rattle.plane_faces.specs.Rings.{darts_of_path}
use Rattle.grid_base.specs.Drawn.{HasPaths}
use Rattle.bucket_grid.proofs.Numbers.{Contains-numbers_where}
use Rattle.bucket_grid.proofs.RisingNumbers.{numbers_where_pass, numbers_where_rise}
use Rattle.face_walk.specs.Holders.{list_at}
use Rattle.face_walk.specs.Places.{FaceTable, IsBuiltOf, face_left_of, place_of}
use Rattle.face_sets.proofs.SetLemmas.{nat_order, to_ascending}
use Rattle.face_laws.specs.Faces.{SeesSide}
use Rattle.face_laws.specs.Holders.{FeaturesHoldLeftOf}
use Rattle.face_laws.proofs.HoldingLemmas.{polygons_sound}
use Rattle.face_laws.proofs.LabelLemmas.{each_table_has_labels}
use Rattle.face_laws.proofs.SideLemmas.{dart_there, features_beside_arcs}
use Rattle.face_sets.specs.Owners.{owners_of}
use Rattle.face_sets.proofs.BoundaryLemmas.{has_Contains, Contains_has}
use Rattle.line_ops.specs.Inside as sides
use Rattle.line_ops.specs.Sided.{left_sets, right_sets, sided_among}
use Rattle.line_ops.proofs.SideLemmas.{among_below}
use Rattle.point_laws.specs.Sight.{PointsOf}
use Rattle.line_laws.specs.Lines.{LeftSideIn}
use Rattle.line_laws.specs.ArcsBetween.{AreAtSide, AreFacesHeld, AreBetween, IsSidedBy, PointsOfFeature, PointsOfSet, SetsStandFor, SetsStandForPoints, SetsStandForFeatures, ArcsBetweenSets, ArcsBetweenFeatures}
use Rattle.line_laws.proofs.LinkSides.{side_is_seen, sides_of_arcs}
use Rattle.line_laws.proofs.SidedRows.{inner_once, is_sided, sided_once}

-- ---- the owners of a face

found_set : (sets : List (List ℕ)) (k i : ℕ) → Contains (owners_of sets k) i → (set : List ℕ) × (slice_get sets i ≡ Some set) × Contains set k
found_set sets k i c =
    let r = numbers_where_pass (λ (set : List ℕ). has nat_eq set k) sets i c in
    let number = r.number in
    let within = r.within in
    let same : r.place ≡ i = omega arith in
    (r.item, subst (λ (j : ℕ). slice_get sets j ≡ Some r.item) same (slice_get-get_or sets r.place r.item r.within ∙ ap Some r.is), has_Contains r.item k r.passes)

set_found : (sets : List (List ℕ)) (k i : ℕ) (set : List ℕ) → slice_get sets i ≡ Some set → Contains set k → Contains (owners_of sets k) i
set_found sets k i set found c =
    Contains-numbers_where (λ (s : List ℕ). has nat_eq s k) sets i set (slice_get_within sets i set found)
    (ap (λ (s : List ℕ). has nat_eq s k) (get_or_from_slice_get sets i set set found) ∙ Contains_has set k c)

-- ---- sets stand for their points

points_at_side : (S : List Segment) (label : Place → ℕ) (sets : List (List ℕ)) (d : Dart) (k : ℕ) → ((set : List ℕ) → LeftSideIn S (PointsOf S label set) d ↔ Contains set k) → AreAtSide S (PointsOfSet S label sets) d (owners_of sets k)
points_at_side S label sets d k side = record {
  rising = numbers_where_rise (λ (set : List ℕ). has nat_eq set k) sets;
  each = λ i. (
    λ c.
        let (set, found, there) = found_set sets k i c in
        let (z, sees, of_set) = (side set).1 there in
        (z, sees, (set, found, of_set)),
    λ h.
        let (z, sees, of_some) = h in
        let (set, found, of_set) = of_some in
        set_found sets k i set found ((side set).0 (z, sees, of_set)),
  );
}

pub sets_stand_for_points : SetsStandForPoints
sets_stand_for_points S arcs faces label h sets n below j e there = (
  points_at_side S label sets (get_or (darts_of_path (get_or arcs n [])) j e) (sides.left_of faces (forward n)) (λ set. (sides_of_arcs S arcs faces label h set (forward n) below j e there).0),
  points_at_side S label sets (opposite (get_or (darts_of_path (get_or arcs n [])) j e)) (sides.left_of faces (backward n)) (λ set. (sides_of_arcs S arcs faces label h set (backward n) below j e there).0),
)

-- ---- the side of a link that a feature holds

module _ (d : Drawing) (drawn : HasPaths (snapped d)) (feature : List Polygon) (of_drawing : Contains (snapped d).polygons feature) where
  abbrev S : List Segment
  S = links_of (snapped d)

  pub polygon_even : (polygon : Polygon) → Contains feature polygon → IsEvenListOf (links_of (snapped d)) (links_of_paths polygon)
  polygon_even polygon c =
      let (i, l, is) = Contains-joined_up (snapped d).polygons feature polygon of_drawing c in
      (polygons_sound (snapped d) drawn i polygon (slice_get-get_or (joined_up (snapped d).polygons) i polygon l ∙ ap Some is)).even

  -- what sees a side of a link is held exactly if the side is, by its count
  held_by_count : (b : Bool) (l : Segment) → Contains (links_of (snapped d)) l → (z : RationalPoint) → SeesSide (links_of (snapped d)) b l z
      → feature_holds z feature ≡ list_any (λ (polygon : Polygon). odd_left_of (links_of_paths polygon) (record { link = l; forward = b })) feature
  held_by_count true l c z sees =
      list_any_same (rings_hold z) (λ (polygon : Polygon). odd_left_of (links_of_paths polygon) (record { link = l; forward = true })) feature
      (λ polygon k. let e = polygon_even polygon k in sight_from_left (links_of (snapped d)) (links_of_paths polygon) (snapped_links_are_an_arrangement d).0 e.within e.even l c z sees)
  held_by_count false l c z sees =
      list_any_same (rings_hold z) (λ (polygon : Polygon). odd_left_of (links_of_paths polygon) (record { link = l; forward = false })) feature
      (λ polygon k. let e = polygon_even polygon k in sight_from_right (links_of (snapped d)) (links_of_paths polygon) (snapped_links_are_an_arrangement d).0 e.within e.even l c z sees)

  pub counted_then_seen : (e : Dart) → Contains (links_of (snapped d)) e.link → list_any (λ (polygon : Polygon). odd_left_of (links_of_paths polygon) e) feature ≡ true
      → (z : RationalPoint) × SeesSide (links_of (snapped d)) e.forward e.link z × (feature_holds z feature ≡ true)
  counted_then_seen e c h = let (z, sees) = side_is_seen (links_of (snapped d)) (snapped_links_are_an_arrangement d).0 e.forward e.link c in (z, sees, held_by_count e.forward e.link c z sees ∙ h)

  pub seen_then_counted : (e : Dart) → Contains (links_of (snapped d)) e.link → (z : RationalPoint) → SeesSide (links_of (snapped d)) e.forward e.link z → feature_holds z feature ≡ true
      → list_any (λ (polygon : Polygon). odd_left_of (links_of_paths polygon) e) feature ≡ true
  seen_then_counted e c z sees h = sym (held_by_count e.forward e.link c z sees) ∙ h

-- ---- sets of the faces that features hold

pub there_is : {A : Type 0} (xs : List A) (i : ℕ) (x : A) → slice_get xs i ≡ Some x → Contains xs x
there_is xs i x found = (i, slice_get_within xs i x found, get_or_from_slice_get xs i x x found)

module _ (d : Drawing) (drawn : HasPaths (snapped d)) (layer : List ℕ) (sets : List (List ℕ)) (count : ℕ) (holders : List (List ℕ)) (held : AreFacesHeld count holders layer sets) where
  features_at_side : (e : Dart) → Contains (links_of (snapped d)) e.link → (k : ℕ) → k < count → FeaturesHoldLeftOf (snapped d).polygons (list_at holders k) e →
      AreAtSide (links_of (snapped d)) (PointsOfFeature (snapped d).polygons layer) e (owners_of sets k)
  features_at_side e on k below by_count = record {
    rising = numbers_where_rise (λ (set : List ℕ). has nat_eq set k) sets;
    each = λ i. (
      λ c.
          let (set, found, there) = found_set sets k i c in
          let l = slice_get_within sets i set found in
          let many = held.each in
          let number : ℕ = get_or layer i 0 in
          let listed : slice_get layer i ≡ Some number = slice_get-get_or layer i 0 (omega arith) in
          let (feature, is_feature, holds) = (by_count number).0 ((held.held i number set listed found k below).0 there) in
          let (z, sees, inside) = counted_then_seen d drawn feature (there_is (snapped d).polygons number feature is_feature) e on holds in
          (z, sees, (number, listed, feature, is_feature, inside)),
      λ h.
          let (z, sees, of_some) = h in
          let (number, listed, feature, is_feature, inside) = of_some in
          let has_number : Contains (list_at holders k) number = (by_count number).1 (feature, is_feature, seen_then_counted d drawn feature (there_is (snapped d).polygons number feature is_feature) e on z sees inside) in
          let l = slice_get_within layer i number listed in
          let many = held.each in
          let found : slice_get sets i ≡ Some (get_or sets i []) = slice_get-get_or sets i [] (omega arith) in
          set_found sets k i (get_or sets i []) found ((held.held i number (get_or sets i []) listed found k below).1 has_number),
    );
  }

pub face_below : (arcs : List Path) (faces : FaceTable) → IsBuiltOf arcs faces → All (λ f. f < faces.count) faces.places → (a : SignedArc) → a.arc < length arcs → face_left_of faces.places a < faces.count
face_below arcs faces built below a l = go a.is_reversed
  where
    go : (b : Bool) → face_left_of faces.places (record { arc = a.arc; is_reversed = b }) < faces.count
    go false = let many = built.places_counted in All-get_or (λ f. f < faces.count) faces.places (place_of (forward a.arc)) 0 (omega arith) below
    go true = let many = built.places_counted in All-get_or (λ f. f < faces.count) faces.places (place_of (backward a.arc)) 0 (omega arith) below

pub sets_stand_for_features : SetsStandForFeatures
sets_stand_for_features d arcs faces labels laid layer sets held n l j e there =
    let s = snapped_links_are_an_arrangement d in
    let (label, by) = each_table_has_labels (links_of (snapped d)) s.0 arcs laid.table.links faces in
    let x : Dart = get_or (darts_of_path (get_or arcs n [])) j e in
    let ahead = (features_beside_arcs d laid.drawn arcs laid.table faces laid.built labels laid.holders (forward n) l (face_below arcs faces laid.built laid.below (forward n) l) j e there).0 in
    let back = (features_beside_arcs d laid.drawn arcs laid.table faces laid.built labels laid.holders (backward n) l (face_below arcs faces laid.built laid.below (backward n) l) j e there).0 in (
      features_at_side d laid.drawn layer sets faces.count labels.holders held x (dart_there (links_of (snapped d)) s.0 arcs laid.table.long laid.table.links faces label by n l j e there false) (sides.left_of faces (forward n)) (face_below arcs faces laid.built laid.below (forward n) l) ahead,
      features_at_side d laid.drawn layer sets faces.count labels.holders held (opposite x) (dart_there (links_of (snapped d)) s.0 arcs laid.table.long laid.table.links faces label by n l j e there true) (sides.left_of faces (backward n)) (face_below arcs faces laid.built laid.below (backward n) l) back,
    )

-- ---- the arcs between them

arcs_between : (S : List Segment) (R : ℕ → Points) (arcs : List Path) (faces : FaceTable) (sets : List (List ℕ)) → SetsStandFor S R arcs faces sets → AreBetween S R arcs (sided_among faces sets (length arcs))
arcs_between S R arcs faces sets stand = record {
  once = sided_once faces sets (length arcs);
  inner_once = inner_once faces sets (length arcs);
  there = among_below faces sets (length arcs) (length arcs) (omega arith);
  by_sides = λ n l j e there left right at_left at_right.
      (let (of_left, of_right) = stand n l j e there in
      let x : Dart = get_or (darts_of_path (get_or arcs n [])) j e in
      let same_left : left_sets faces sets n ≡ left = one_ascending nat_lt nat_order (left_sets faces sets n) left (to_ascending (left_sets faces sets n) of_left.rising) (to_ascending left at_left.rising) (λ i c. (at_left.each i).1 ((of_left.each i).0 c)) (λ i c. (of_left.each i).1 ((at_left.each i).0 c)) in
      let same_right : right_sets faces sets n ≡ right = one_ascending nat_lt nat_order (right_sets faces sets n) right (to_ascending (right_sets faces sets n) of_right.rising) (to_ascending right at_right.rising) (λ i c. (at_right.each i).1 ((of_right.each i).0 c)) (λ i c. (of_right.each i).1 ((at_right.each i).0 c)) in
      subst (λ (xs : List ℕ). IsSidedBy (sided_among faces sets (length arcs)) n left xs) same_right
      (subst (λ (xs : List ℕ). IsSidedBy (sided_among faces sets (length arcs)) n xs (right_sets faces sets n)) same_left (is_sided faces sets (length arcs) n l)));
}

pub arcs_between_sets : ArcsBetweenSets
arcs_between_sets S arcs faces label h sets = arcs_between S (PointsOfSet S label sets) arcs faces sets (sets_stand_for_points S arcs faces label h sets)

pub arcs_between_features : ArcsBetweenFeatures
arcs_between_features d arcs faces labels laid layer sets held =
    arcs_between (links_of (snapped d)) (PointsOfFeature (snapped d).polygons layer) arcs faces sets (sets_stand_for_features d arcs faces labels laid layer sets held)
