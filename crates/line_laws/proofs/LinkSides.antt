-- The sides of the links of an arc, by the faces beside the arc.
use Rattle.std.proofs.Common.{◌≡◌, ◌↔◌, inl, inr, sym, subst, arith, ℕ, ◌+◌, ◌*◌, ◌<◌, Bool, true, false, not, cond, nat_eq, List, [], map, length, get_or, Contains}
use Rattle.std.proofs.Math.IntN.{ℤ, pos, ◌*ℤ◌}
use Rattle.std.specs.Prelude.{◌<ℤ◌}
use Rattle.std.proofs.lemmas.Int.{ints}
use Rattle.std.proofs.lemmas.Bool.{or_cases, or_left, or_right}
use Rattle.std.proofs.lemmas.List.{get_or-map, length-map}
use Rattle.lists.specs.Lists.{has}
use Rattle.plane_model.specs.Points.{RationalPoint, Segment, Path, SamePlace, at, turn, link_between, is_before}
use Rattle.plane_model.specs.Arcs.{SignedArc}
use Rattle.plane_model.specs.Arrangement.{IsArrangement, IsDistinct}
use Rattle.plane_model.specs.Drawing.{steps}
use Rattle.plane_model.specs.Joined.{IsBoundaryLink, links_of_arc}
use Rattle.plane_model.specs.Rotation.{Dart}
use Rattle.plane_model.specs.Sees.{IsClear, IsOffLinks, midpoint}
use Rattle.plane_model.specs.Snapped.{snapped}
use Rattle.plane_snapping.proofs.SnappedLinks.{snapped_links_are_an_arrangement}
use Rattle.plane_parity.proofs.Abscissa.{half_turn}
use Rattle.plane_parity.proofs.AlongLink.{IsOnSegment-first}
use Rattle.plane_parity.proofs.Place.{turn_same_place}
use Rattle.plane_parity.proofs.Visible.{seen_from_left, seen_from_right}
use Rattle.plane_faces.specs.Around.{opposite}
use Rattle.plane_faces.specs.Places.{Place, left_of, AgreesWherePlacesMeet}
use Rattle.plane_faces.specs.Rings.{dart_of_step, darts_of_path}
use Rattle.plane_faces.proofs.Order.{place_exists}
use Rattle.plane_faces.proofs.Sighted.{label_from_left, label_from_right}
use Rattle.plane_faces.proofs.Sorting.{rotations_exist}
use Rattle.face_walk.specs.Places.{FaceTable, HasArc}
use Rattle.face_laws.specs.Faces.{SeesSide, directed_as}
use Rattle.face_laws.proofs.ClassLemmas.{faces_are_classes}
use Rattle.face_laws.proofs.DartLemmas.{twice_opposite}
use Rattle.face_laws.proofs.PointLemmas.{whole_are_free}
use Rattle.face_laws.proofs.SideLemmas.{dart_there, label_there}
use Rattle.face_sets.proofs.BoundaryLemmas.{has_Contains, Contains_has}
use Rattle.line_ops.specs.Inside as sides
use Rattle.point_laws.specs.Sight.{PointsOf}
use Rattle.line_laws.specs.Lines.{AreLabelled, LeftSideIn, IsLinkInside, HasJustOne, DrawingsAreLabelled, SidesOfArcs, ArcsAreInside, BoundaryOfArcs, BoundaryIsDirected, SidesAreWhole}

pub drawings_are_labelled : DrawingsAreLabelled
drawings_are_labelled d arcs table faces built label by =
    let s = snapped_links_are_an_arrangement d in
    record { arrangement = s.0; distinct = s.1; long = table.long; along = table.links; free = whole_are_free (snapped d) arcs table.whole; built = built; by_face = by }

-- ---- points that see links

-- what is aside of a link and sees it lies on no link
seeing_is_off : (S : List Segment) (l : Segment) (z : RationalPoint) → (turn (at l.start) (at l.stop) z ≡ pos 0 → ⊥) → IsClear S z (midpoint l) → IsOffLinks S z
seeing_is_off S l z aside clear k ck on =
    let m : RationalPoint = midpoint l in
    let same : SamePlace z m = clear k ck z (IsOnSegment-first z m) on in
    let level : turn (at l.start) (at l.stop) m ≡ pos 0 = half_turn l.start.x l.start.y l.stop.x l.stop.y in
    aside (halved z.W (turn (at l.start) (at l.stop) m) (turn (at l.start) (at l.stop) z) (turn_same_place (at l.start) (at l.stop) z m same) level)
  where
    halved : (w s t : ℤ) → w *ℤ s ≡ pos 2 *ℤ t → s ≡ pos 0 → t ≡ pos 0
    halved w s t e f = let g : w *ℤ pos 0 ≡ pos 2 *ℤ t = rw f at e in omega (arith, ints)

pub left_off : (S : List Segment) (l : Segment) (z : RationalPoint) → pos 0 <ℤ turn (at l.start) (at l.stop) z → IsClear S z (midpoint l) → IsOffLinks S z
left_off S l z h clear = seeing_is_off S l z (above (turn (at l.start) (at l.stop) z) h) clear
  where
    above : (t : ℤ) → pos 0 <ℤ t → t ≡ pos 0 → ⊥
    above t h e = omega (arith, ints)

pub right_off : (S : List Segment) (l : Segment) (z : RationalPoint) → turn (at l.start) (at l.stop) z <ℤ pos 0 → IsClear S z (midpoint l) → IsOffLinks S z
right_off S l z h clear = seeing_is_off S l z (below (turn (at l.start) (at l.stop) z) h) clear
  where
    below : (t : ℤ) → t <ℤ pos 0 → t ≡ pos 0 → ⊥
    below t h e = omega (arith, ints)

-- each side of a link is seen
pub side_is_seen : (S : List Segment) → IsArrangement S → (b : Bool) (l : Segment) → Contains S l → (z : RationalPoint) × SeesSide S b l z
side_is_seen S arr true l c = seen_from_left S arr l c
side_is_seen S arr false l c = seen_from_right S arr l c

-- ---- a side of a link belongs to the points of a set exactly if the set has its label

module _ (S : List Segment) (arr : IsArrangement S) (distinct : IsDistinct S) (label : Place → ℕ) (agrees : AgreesWherePlacesMeet S label) (set : List ℕ) where
  side_of_link : (b : Bool) (l : Segment) → Contains S l → LeftSideIn S (PointsOf S label set) (record { link = l; forward = b }) ↔ Contains set (label (left_of (record { link = l; forward = b })))
  side_of_link true l c = (
    λ h.
        let (z, sees, held) = h in
        let (off, placed) = held in
        let (a, here, has_label) = placed in
        subst (Contains set) (label_from_left S arr distinct (rotations_exist S arr distinct) label agrees l c z sees a here) has_label,
    λ has_label.
        let (z, sees) = seen_from_left S arr l c in
        let (a, here) = place_exists S arr z in
        (z, sees, (left_off S l z sees.0 sees.1, (a, here, subst (Contains set) (sym (label_from_left S arr distinct (rotations_exist S arr distinct) label agrees l c z sees a here)) has_label))),
  )
  side_of_link false l c = (
    λ h.
        let (z, sees, held) = h in
        let (off, placed) = held in
        let (a, here, has_label) = placed in
        subst (Contains set) (label_from_right S arr distinct (rotations_exist S arr distinct) label agrees l c z sees a here) has_label,
    λ has_label.
        let (z, sees) = seen_from_right S arr l c in
        let (a, here) = place_exists S arr z in
        (z, sees, (right_off S l z sees.0 sees.1, (a, here, subst (Contains set) (sym (label_from_right S arr distinct (rotations_exist S arr distinct) label agrees l c z sees a here)) has_label))),
  )

  pub side_of_dart : (d : Dart) → Contains S d.link → LeftSideIn S (PointsOf S label set) d ↔ Contains set (label (left_of d))
  side_of_dart d c = side_of_link d.forward d.link c

  -- what sees a side of a link is in the points of a set if the set has its label
  seen_side : (b : Bool) (l : Segment) → Contains S l → Contains set (label (left_of (record { link = l; forward = b }))) → (z : RationalPoint) → SeesSide S b l z → PointsOf S label set z
  seen_side true l c has_label z sees =
      let (a, here) = place_exists S arr z in
      (left_off S l z sees.0 sees.1, (a, here, subst (Contains set) (sym (label_from_left S arr distinct (rotations_exist S arr distinct) label agrees l c z sees a here)) has_label))
  seen_side false l c has_label z sees =
      let (a, here) = place_exists S arr z in
      (right_off S l z sees.0 sees.1, (a, here, subst (Contains set) (sym (label_from_right S arr distinct (rotations_exist S arr distinct) label agrees l c z sees a here)) has_label))

-- ---- the links of an arc

pub labels_agree : (S : List Segment) (arcs : List Path) (faces : FaceTable) (label : Place → ℕ) → AreLabelled S arcs faces label → AgreesWherePlacesMeet S label
labels_agree S arcs faces label h = (faces_are_classes S h.arrangement arcs h.long h.along h.free faces h.built label h.by_face).agrees

module _ (S : List Segment) (arcs : List Path) (faces : FaceTable) (label : Place → ℕ) (h : AreLabelled S arcs faces label) (set : List ℕ) (n : ℕ) (below : n < length arcs) where
  abbrev pub HasSide : Dart → SignedArc → Type 0
  HasSide d a = LeftSideIn S (PointsOf S label set) d ↔ Contains set (sides.left_of faces a)

  abbrev signed : Bool → SignedArc
  signed b = record { arc = n; is_reversed = b }

  -- the side of a dart of the arc, or of the dart turned round
  side_along : (j : ℕ) (e : Dart) → j < length (darts_of_path (get_or arcs n [])) → (b : Bool) → HasSide (cond b (opposite (get_or (darts_of_path (get_or arcs n [])) j e)) (get_or (darts_of_path (get_or arcs n [])) j e)) (signed b)
  side_along j e there b =
      let d : Dart = cond b (opposite (get_or (darts_of_path (get_or arcs n [])) j e)) (get_or (darts_of_path (get_or arcs n [])) j e) in
      let on : Contains S d.link = dart_there S h.arrangement arcs h.long h.along faces label h.by_face n below j e there b in
      let is : label (left_of d) ≡ sides.left_of faces (signed b) = label_there S h.arrangement arcs h.long h.along faces label h.by_face n below j e there b in
      subst (λ (f : ℕ). LeftSideIn S (PointsOf S label set) d ↔ Contains set f) is (side_of_dart S h.arrangement h.distinct label (labels_agree S arcs faces label h) set d on)

  pub both_sides : (b : Bool) (j : ℕ) (e : Dart) → j < length (darts_of_path (get_or arcs n [])) →
      HasSide (directed_as (signed b) (get_or (darts_of_path (get_or arcs n [])) j e)) (signed b) × HasSide (opposite (directed_as (signed b) (get_or (darts_of_path (get_or arcs n [])) j e))) (signed (not b))
  both_sides false j e there = (side_along j e there false, side_along j e there true)
  both_sides true j e there =
      let d : Dart = get_or (darts_of_path (get_or arcs n [])) j e in
      (side_along j e there true, subst (λ (x : Dart). HasSide x (signed false)) (sym (twice_opposite d)) (side_along j e there false))

pub sides_of_arcs : SidesOfArcs
sides_of_arcs S arcs faces label h set a below j e there = both_sides S arcs faces label h set a.arc below a.is_reversed j e there

-- ---- by links

module _ (S : List Segment) (arcs : List Path) (faces : FaceTable) (label : Place → ℕ) (h : AreLabelled S arcs faces label) (set : List ℕ) (a : SignedArc) (below : a.arc < length arcs) where
  -- a link of which the set has the left side and the right side, as one looks along it or back, where it has faces f
  -- and g
  abbrev pub HaveSides : Segment → ℕ → ℕ → Type 0
  HaveSides l f g = (b : Bool) × (LeftSideIn S (PointsOf S label set) (record { link = l; forward = b }) ↔ Contains set f) × (LeftSideIn S (PointsOf S label set) (record { link = l; forward = not b }) ↔ Contains set g)

  pub sides_at : (j : ℕ) (l : Segment) → j < length (links_of_arc arcs a.arc) → HaveSides (get_or (links_of_arc arcs a.arc) j l) (sides.left_of faces a) (sides.right_of faces a)
  sides_at j l there =
      let ss = steps (get_or arcs a.arc []) in
      let many = length-map ss link_between in
      let all = length-map ss dart_of_step in
      let e : Dart = record { link = l; forward = true } in
      let s : Segment = get_or ss j l in
      let is_link : get_or (links_of_arc arcs a.arc) j l ≡ link_between s = get_or-map link_between ss j l l (omega arith) in
      let is_dart : get_or (map dart_of_step ss) j e ≡ dart_of_step s = get_or-map dart_of_step ss j l e (omega arith) in
      let side = sides_of_arcs S arcs faces label h set a below j e (omega arith) in
      subst (λ (k : Segment). HaveSides k (sides.left_of faces a) (sides.right_of faces a)) (sym is_link)
      (of_dart a.is_reversed s (subst (λ (d : Dart). (LeftSideIn S (PointsOf S label set) (directed_as a d) ↔ Contains set (sides.left_of faces a)) × (LeftSideIn S (PointsOf S label set) (opposite (directed_as a d)) ↔ Contains set (sides.right_of faces a))) is_dart side))
    where
      of_dart : (b : Bool) (s : Segment) → (LeftSideIn S (PointsOf S label set) (cond b (opposite (dart_of_step s)) (dart_of_step s)) ↔ Contains set (sides.left_of faces a))
          × (LeftSideIn S (PointsOf S label set) (opposite (cond b (opposite (dart_of_step s)) (dart_of_step s))) ↔ Contains set (sides.right_of faces a)) → HaveSides (link_between s) (sides.left_of faces a) (sides.right_of faces a)
      of_dart false s p = (is_before s.start s.stop, p.0, p.1)
      of_dart true s p = (not (is_before s.start s.stop), p.0, p.1)

  inside_by_sides : (l : Segment) → HaveSides l (sides.left_of faces a) (sides.right_of faces a) → (sides.is_inside faces set a ≡ true) ↔ IsLinkInside S (PointsOf S label set) l
  inside_by_sides l have = go have.0 have.1 have.2
    where
      go : (b : Bool) → (LeftSideIn S (PointsOf S label set) (record { link = l; forward = b }) ↔ Contains set (sides.left_of faces a)) → (LeftSideIn S (PointsOf S label set) (record { link = l; forward = not b }) ↔ Contains set (sides.right_of faces a))
          → (sides.is_inside faces set a ≡ true) ↔ IsLinkInside S (PointsOf S label set) l
      go true p q = (
        λ e. elim (or_cases (has nat_eq set (sides.left_of faces a)) (has nat_eq set (sides.right_of faces a)) e) [ inl i ↦ inl (p.1 (has_Contains set (sides.left_of faces a) i)) | inr i ↦ inr (q.1 (has_Contains set (sides.right_of faces a) i)) ],
        λ s. elim s [
          | inl i ↦ or_left (has nat_eq set (sides.left_of faces a)) (has nat_eq set (sides.right_of faces a)) (Contains_has set (sides.left_of faces a) (p.0 i))
          | inr i ↦ or_right (has nat_eq set (sides.left_of faces a)) (has nat_eq set (sides.right_of faces a)) (Contains_has set (sides.right_of faces a) (q.0 i))
        ],
      )
      go false p q = (
        λ e. elim (or_cases (has nat_eq set (sides.left_of faces a)) (has nat_eq set (sides.right_of faces a)) e) [ inl i ↦ inr (p.1 (has_Contains set (sides.left_of faces a) i)) | inr i ↦ inl (q.1 (has_Contains set (sides.right_of faces a) i)) ],
        λ s. elim s [
          | inl i ↦ or_right (has nat_eq set (sides.left_of faces a)) (has nat_eq set (sides.right_of faces a)) (Contains_has set (sides.right_of faces a) (q.0 i))
          | inr i ↦ or_left (has nat_eq set (sides.left_of faces a)) (has nat_eq set (sides.right_of faces a)) (Contains_has set (sides.left_of faces a) (p.0 i))
        ],
      )

  boundary_by_sides : (l : Segment) → HaveSides l (sides.left_of faces a) (sides.right_of faces a) → IsBoundaryLink S (PointsOf S label set) l ↔ HasJustOne set (sides.left_of faces a) (sides.right_of faces a)
  boundary_by_sides l have = go have.0 have.1 have.2
    where
      go : (b : Bool) → (LeftSideIn S (PointsOf S label set) (record { link = l; forward = b }) ↔ Contains set (sides.left_of faces a)) → (LeftSideIn S (PointsOf S label set) (record { link = l; forward = not b }) ↔ Contains set (sides.right_of faces a))
          → IsBoundaryLink S (PointsOf S label set) l ↔ HasJustOne set (sides.left_of faces a) (sides.right_of faces a)
      go true p q = (
        λ s. elim s [ inl i ↦ inl (p.0 i.0, λ r. i.1 (q.1 r)) | inr i ↦ inr (q.0 i.0, λ r. i.1 (p.1 r)) ],
        λ s. elim s [ inl i ↦ inl (p.1 i.0, λ r. i.1 (q.0 r)) | inr i ↦ inr (q.1 i.0, λ r. i.1 (p.0 r)) ],
      )
      go false p q = (
        λ s. elim s [ inl i ↦ inr (q.0 i.0, λ r. i.1 (p.1 r)) | inr i ↦ inl (p.0 i.0, λ r. i.1 (q.1 r)) ],
        λ s. elim s [ inl i ↦ inr (p.1 i.0, λ r. i.1 (q.0 r)) | inr i ↦ inl (q.1 i.0, λ r. i.1 (p.0 r)) ],
      )

pub arcs_are_inside : ArcsAreInside
arcs_are_inside S arcs faces label h set a below j l there =
    inside_by_sides S arcs faces label h set a below (get_or (links_of_arc arcs a.arc) j l) (sides_at S arcs faces label h set a below j l there)

pub boundary_of_arcs : BoundaryOfArcs
boundary_of_arcs S arcs faces label h set a below j l there =
    boundary_by_sides S arcs faces label h set a below (get_or (links_of_arc arcs a.arc) j l) (sides_at S arcs faces label h set a below j l there)

-- ---- the boundary as it is directed, and all that sees a side

has_arc : (arcs : List Path) (faces : FaceTable) → length faces.places ≡ 2 * length arcs + 1 → (a : SignedArc) → a.arc < length arcs → HasArc faces a
has_arc arcs faces many a below = omega arith

pub boundary_is_directed : BoundaryIsDirected
boundary_is_directed S arcs faces label h set a below j e there =
    let (on_left, on_right) = sides_of_arcs S arcs faces label h set a below j e there in (
      λ b. (on_left.1 b.left, λ r. b.right (on_right.0 r)),
      λ p. record { arc = has_arc arcs faces h.built.places_counted a below; left = on_left.0 p.0; right = λ r. p.1 (on_right.1 r) },
    )

pub sides_are_whole : SidesAreWhole
sides_are_whole S arcs faces label h set d c in_set z sees =
    let agrees = labels_agree S arcs faces label h in
    seen_side S h.arrangement h.distinct label agrees set d.forward d.link c ((side_of_dart S h.arrangement h.distinct label agrees set d c).0 in_set) z sees
