-- Which vertices are inside a region, told by its set.
use Rattle.std.proofs.Common.{◌≡◌, ◌↔◌, inl, inr, refl, sym, ap, ◌∙◌, subst, ℕ, Bool, true, false, cond, ◌&&◌, ◌||◌, nat_eq, List, Contains}
use Rattle.std.specs.List.{list_any}
use Rattle.std.proofs.lemmas.Bool.{or_cases, or_left, or_right, and_from, and_parts}
use Rattle.std.proofs.lemmas.List.Folds.{Any-from_list_any, list_any_at}
use Rattle.lists.specs.Lists.{has}
use Rattle.plane_model.specs.Points.{GridPoint, RationalPoint, Segment, at, same_point}
use Rattle.plane_model.specs.Arrangement.{IsEnd}
use Rattle.plane_model.specs.Drawing.{Drawing, vertices_of}
use Rattle.plane_model.specs.Rotation.{Dart, tail}
use Rattle.plane_model.specs.Sees.{IsOffLinks, SeesPoint}
use Rattle.plane_model.specs.Sides.{IsInside, Points}
use Rattle.plane_model.specs.Snapped.{links_of, snapped}
use Rattle.plane_model.proofs.PointOrder.{clash, same_point_from, same_point_to}
use Rattle.plane_snapping.proofs.SnappedLinks.{no_vertex_inside, snapped_links_are_an_arrangement}
use Rattle.plane_parity.proofs.LinkOrder.{same_grid}
use Rattle.plane_faces.specs.Places.{Place, left_of, IsPlaceOf, AgreesWherePlacesMeet}
use Rattle.plane_faces.proofs.Order.{place_exists}
use Rattle.plane_faces.proofs.Sighted.{label_along_a_segment}
use Rattle.plane_faces.proofs.Sorting.{rotations_exist}
use Rattle.face_sets.proofs.BoundaryLemmas.{has_Contains, Contains_has}
use Rattle.point_laws.proofs.Sectors.{seen_from_sectors}
use Rattle.point_laws.proofs.SeenSectors.{sectors_are_seen}
use Rattle.point_laws.proofs.SightLemmas.{free_points_are_seen, seeing_is_off, sight_is_free}
use Rattle.region_model.specs.Region.{Has}
use Rattle.line_laws.specs.Regions.{HasFacesOf, InsidesAreTold}
use Rattle.line_laws.proofs.LinkSides.{drawings_are_labelled, labels_agree}

-- p is an end of the link
abbrev ends_at : GridPoint → Segment → Bool
ends_at p l = same_point l.start p || same_point l.stop p

-- a dart that starts at p
dart_from : (S : List Segment) (p : GridPoint) → list_any (ends_at p) S ≡ true → (d : Dart) × Contains S d.link × (tail d ≡ p)
dart_from S p e =
    let (i, l, below, is, here) = Any-from_list_any (ends_at p) S e in
    elim (or_cases (same_point l.start p) (same_point l.stop p) here) [
      | inl starts ↦ (record { link = l; forward = true }, (i, below, is), same_point_from l.start p starts)
      | inr stops ↦ (record { link = l; forward = false }, (i, below, is), same_point_from l.stop p stops)
    ]

module _ (d : Drawing) (label : Place → ℕ) (agrees : AgreesWherePlacesMeet (links_of (snapped d)) label) (set : List ℕ) (R : Points) (follows : HasFacesOf (links_of (snapped d)) label set R) (p : GridPoint) where
  abbrev S : List Segment
  S = links_of (snapped d)

  -- the set has the face of a dart
  abbrev has_left : Segment → Bool → Bool
  has_left l b = has nat_eq set (label (left_of (record { link = l; forward = b })))

  -- or the face of a sector where a link starts or stops at p
  abbrev has_sector : Segment → Bool
  has_sector l = (same_point l.start p && has_left l true) || (same_point l.stop p && has_left l false)

  -- ---- an end of a link

  sector_seen : (e : Dart) → Contains S e.link → tail e ≡ p → Contains set (label (left_of e)) → IsInside S R p
  sector_seen e c starts there =
      let s = snapped_links_are_an_arrangement d in
      let (z, sees, off, says) = sectors_are_seen S s.0 s.1 e c in
      let (a, here) = place_exists S s.0 z in
      (z, subst (λ (q : GridPoint). SeesPoint S q z) starts sees, (follows z off a here).1 (subst (Contains set) (sym (says label agrees a here)) there))

  told_seen : list_any has_sector S ≡ true → IsInside S R p
  told_seen e =
      let (i, l, below, is, here) = Any-from_list_any has_sector S e in
      elim (or_cases (same_point l.start p && has_left l true) (same_point l.stop p && has_left l false) here) [
        | inl first ↦ (
            let (starts, there) = and_parts (same_point l.start p) (has_left l true) first in
            sector_seen (record { link = l; forward = true }) (i, below, is) (same_point_from l.start p starts) (has_Contains set (label (left_of (record { link = l; forward = true }))) there))
        | inr second ↦ (
            let (stops, there) = and_parts (same_point l.stop p) (has_left l false) second in
            sector_seen (record { link = l; forward = false }) (i, below, is) (same_point_from l.stop p stops) (has_Contains set (label (left_of (record { link = l; forward = false }))) there))
      ]

  has_dart : (l : Segment) (b : Bool) → tail (record { link = l; forward = b }) ≡ p → has_left l b ≡ true → has_sector l ≡ true
  has_dart l true e h = or_left (same_point l.start p && has_left l true) (same_point l.stop p && has_left l false) (and_from (same_point l.start p) (has_left l true) (same_point_to l.start p e) h)
  has_dart l false e h = or_right (same_point l.start p && has_left l true) (same_point l.stop p && has_left l false) (and_from (same_point l.stop p) (has_left l false) (same_point_to l.stop p e) h)

  seen_told : list_any (ends_at p) S ≡ true → IsInside S R p → list_any has_sector S ≡ true
  seen_told ends (z, sees, in_r) =
      let s = snapped_links_are_an_arrangement d in
      let (e, c, starts) = dart_from S p ends in
      let (a, here) = place_exists S s.0 z in
      let (f, on, tails, same) = seen_from_sectors S s.0 s.1 label agrees e c z (subst (λ (q : GridPoint). SeesPoint S q z) (sym starts) sees) a here in
      let there : Contains set (label (left_of f)) = subst (Contains set) same ((follows z (seeing_is_off S p z sees) a here).0 in_r) in
      let from_p : tail f ≡ p = subst (λ (q : GridPoint). tail f ≡ q) starts tails in
      let held : has_sector f.link ≡ true = has_dart f.link f.forward from_p (Contains_has set (label (left_of f)) there) in
      list_any_at has_sector S on.0 f.link on.1 (ap has_sector on.2 ∙ held)

  -- ---- a vertex on no link

  module _ (vertex : Contains (vertices_of (snapped d)) p) (none : list_any (ends_at p) S ≡ false) where
    not_end : (l : Segment) → Contains S l → IsEnd l (at p) → ⊥
    not_end l c (inl h) = clash (list_any (ends_at p) S) (list_any_at (ends_at p) S c.0 l c.1 (ap (ends_at p) c.2 ∙ or_left (same_point l.start p) (same_point l.stop p) (same_point_to l.start p (sym (same_grid p l.start h))))) none
    not_end l c (inr h) = clash (list_any (ends_at p) S) (list_any_at (ends_at p) S c.0 l c.1 (ap (ends_at p) c.2 ∙ or_right (same_point l.start p) (same_point l.stop p) (same_point_to l.stop p (sym (same_grid p l.stop h))))) none

    off_all : IsOffLinks S (at p)
    off_all l c on = not_end l c (no_vertex_inside d l p c vertex on)

    -- its own face
    abbrev own : Place
    own = (place_exists S (snapped_links_are_an_arrangement d).0 (at p)).0

    same_face : (z : RationalPoint) → SeesPoint S p z → (a : Place) → IsPlaceOf S z a → label a ≡ label own
    same_face z sees a here =
        let s = snapped_links_are_an_arrangement d in
        label_along_a_segment S s.0 s.1 (rotations_exist S s.0 s.1) label agrees z (at p) (sight_is_free S p off_all z sees) a own here (place_exists S s.0 (at p)).1

    own_told : (has nat_eq set (label own) ≡ true) ↔ IsInside S R p
    own_told = (
      λ e.
          let (z, sees, off) = free_points_are_seen S (snapped_links_are_an_arrangement d).0 p off_all in
          let (a, here) = place_exists S (snapped_links_are_an_arrangement d).0 z in
          (z, sees, (follows z off a here).1 (subst (Contains set) (sym (same_face z sees a here)) (has_Contains set (label own) e))),
      λ h.
          let (z, sees, in_r) = h in
          let (a, here) = place_exists S (snapped_links_are_an_arrangement d).0 z in
          Contains_has set (label own) (subst (Contains set) (same_face z sees a here) ((follows z (seeing_is_off S p z sees) a here).0 in_r)),
    )

  -- ---- any vertex

  abbrev pub is_inside : Bool
  is_inside = cond (list_any (ends_at p) S) (list_any has_sector S) (has nat_eq set (label (place_exists S (snapped_links_are_an_arrangement d).0 (at p)).0))

  pub inside_is_told : Contains (vertices_of (snapped d)) p → (is_inside ≡ true) ↔ IsInside (links_of (snapped d)) R p
  inside_is_told vertex = go (list_any (ends_at p) S) refl
    where
      go : (b : Bool) → list_any (ends_at p) S ≡ b → (cond b (list_any has_sector S) (has nat_eq set (label (place_exists S (snapped_links_are_an_arrangement d).0 (at p)).0)) ≡ true) ↔ IsInside S R p
      go true e = (told_seen, seen_told e)
      go false e = own_told vertex e

pub insides_are_told : InsidesAreTold
insides_are_told d arcs faces label on set r follows =
    let agrees = labels_agree (links_of (snapped d)) arcs faces label (drawings_are_labelled d arcs on.table faces on.built label on.by_face) in
    (is_inside d label agrees set (Has (snapped d) arcs r) follows, λ p vertex. inside_is_told d label agrees set (Has (snapped d) arcs r) follows p vertex)
