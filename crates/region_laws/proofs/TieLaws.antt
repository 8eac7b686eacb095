-- Sets of faces and the sides that belong to their regions.
use Rattle.std.proofs.Common.{◌≡◌, ◌⊎◌, inl, inr, refl, sym, ap, subst, ◌∙◌, arith, ℕ, ◌<◌, Bool, true, false, Some, List, [], ◌∷◌, Contains, length, get_or, map, nat_eq, nat_lt}
use Rattle.std.specs.Prelude.{◌↔◌}
use Rattle.std.specs.List.{cons_option, range_with_len}
use Rattle.std.proofs.lemmas.List.Elements.{All-contains}
use Rattle.std.proofs.lemmas.Option.{slice_get-get_or}
use Rattle.lists.specs.Lists.{has}
use Rattle.lists.proofs.Ascending.{one_ascending}
use Rattle.lists.proofs.Members.{Contains-cases, Contains-head, Contains-later, Contains-nil}
use Rattle.plane_model.specs.Points.{RationalPoint, Segment, Path}
use Rattle.plane_model.specs.Arcs.{SignedArc}
use Rattle.plane_model.specs.Boundary.{boundary_by, boundary_step}
use Rattle.plane_model.specs.Drawing.{Drawing, steps}
use Rattle.plane_model.specs.Rotation.{Dart}
use Rattle.plane_model.specs.Sees.{IsOffLinks}
use Rattle.plane_model.specs.Snapped.{links_of, snapped}
use Rattle.plane_faces.specs.Places.{Place, IsBeside, left_of, left_side, right_side}
use Rattle.plane_faces.specs.Rings.{dart_of_step}
use Rattle.plane_faces.proofs.Connected.{connected}
use Rattle.plane_faces.proofs.FaceLaws.{among_agrees}
use Rattle.plane_faces.proofs.Order.{place_exists}
use Rattle.plane_faces.proofs.Sorting.{rotations_exist}
use Rattle.face_walk.specs.Places.{FaceTable, face_left_of}
use Rattle.face_sets.proofs.GapLemmas.{of_range}
use Rattle.face_laws.specs.Faces.{directed_as}
use Rattle.face_laws.proofs.ShownLemmas.{faces_have_arcs}
use Rattle.face_laws.proofs.SideLemmas.{dart_there, label_there}
use Rattle.face_laws.proofs.StepLemmas.{arc_of}
use Rattle.face_sets.specs.Sets.{IsInnerFace, IsSetOf}
use Rattle.face_sets.proofs.BoundaryLemmas.{Contains_has, same_or_other}
use Rattle.face_sets.proofs.SetLemmas.{nat_order, to_ascending, filter_same}
use Rattle.region_ops.specs.Cleaned.{area_of, ranks_before}
use Rattle.region_ops.specs.Dissolved.{set_at}
use Rattle.part_laws.proofs.BoundedLaws.{outside_is_not}
use Rattle.part_laws.proofs.LinkLemmas.{link_of_arc}
use Rattle.region_model.specs.Region.{Region, any_of, less, Has}
use Rattle.region_laws.specs.Regions.{Follows}
use Rattle.region_model.specs.PolygonCommands.{regions_at}
use Rattle.region_laws.specs.Followed.{IsWalked}
use Rattle.region_laws.specs.Ties.{CleanedByRegions, EmptySetsAreEmptyRegions, OneSetFollows, SetsAreOfSides, SideBelongs, area_within}
use Rattle.region_laws.proofs.Areas.{areas_are_those_of_regions}
use Rattle.region_laws.proofs.OffLinks.{off_from_left, off_from_right}
use Rattle.region_laws.proofs.Sets.{cleaned_sets_are_followed}
use Rattle.region_laws.proofs.Sides.{left_belongs, right_belongs}
use Rattle.region_laws.proofs.SideTests.{left_same, right_same}
use Rattle.region_laws.proofs.Walked.{arcs_free, labels_faces, links_arranged, links_distinct}

-- ---- boundaries without links

none_apart : (left right : Segment → Bool) (S : List Segment) → ((l : Segment) → Contains S l → left l ≡ right l) → boundary_by left right S ≡ []
none_apart left right [] h = refl
none_apart left right (l ∷ S) h = go (left l) (right l) (h l (Contains-head l S)) (none_apart left right S (λ k c. h k (Contains-later l S k c)))
  where
    go : (a b : Bool) → a ≡ b → boundary_by left right S ≡ [] → cons_option (boundary_step a b l) (boundary_by left right S) ≡ []
    go true true e none = none
    go true false e none = absurd (cc)
    go false true e none = absurd (cc)
    go false false e none = none

apart_none : (left right : Segment → Bool) (S : List Segment) → boundary_by left right S ≡ [] → (l : Segment) → Contains S l → left l ≡ right l
apart_none left right [] none l c = Contains-nil l c
apart_none left right (k ∷ S) none l c = go (left k) (right k) refl refl none (λ empty there. apart_none left right S empty l there)
  where
    later : left k ≡ right k → (Contains S l → left l ≡ right l) → left l ≡ right l
    later e more = elim (Contains-cases k S l c) [ inl same ↦ subst (λ (m : Segment). left m ≡ right m) same e | inr there ↦ more there ]

    go : (a b : Bool) → left k ≡ a → right k ≡ b → cons_option (boundary_step a b k) (boundary_by left right S) ≡ [] → (boundary_by left right S ≡ [] → Contains S l → left l ≡ right l) → left l ≡ right l
    go true true e f empty more = later (e ∙ sym f) (more empty)
    go true false e f empty more = absurd (cc)
    go false true e f empty more = absurd (cc)
    go false false e f empty more = later (e ∙ sym f) (more empty)

-- ---- faces of a set

module _ (d : Drawing) (arcs : List Path) (faces : FaceTable) (label : Place → ℕ) (walked : IsWalked d arcs faces label) where
  abbrev S : List Segment
  S = links_of (snapped d)

  -- an inner face is left of a signed arc
  arc_of_inner : (k : ℕ) → IsInnerFace faces k → (a : SignedArc) × (a.arc < length arcs) × (face_left_of faces.places a ≡ k)
  arc_of_inner k h = elim (faces_have_arcs arcs faces walked.built k h.there) [
    | inl e ↦ absurd (h.not_outer (slice_get-get_or faces.places 0 0 (let size = walked.built.places_counted in omega arith) ∙ ap (λ (m : ℕ). Some m) (sym e)))
    | inr found ↦ found
  ]

  -- and on a side of a link
  side_of_inner : (k : ℕ) → IsInnerFace faces k → (l : Segment) × Contains (links_of (snapped d)) l × ((label (left_side l) ≡ k) ⊎ (label (right_side l) ≡ k))
  side_of_inner k h =
      let (a, below, is) = arc_of_inner k h in
      let (l, there, c, same, goes) = link_of_arc S (links_arranged d) arcs walked.table.long walked.table.links faces label walked.labelled a.arc below in
      elim (same_or_other a c (sym same)) [
        | inl e ↦ (l, there, inl (goes.left ∙ sym (ap (face_left_of faces.places) e) ∙ is))
        | inr e ↦ (l, there, inr (goes.right ∙ sym (ap (face_left_of faces.places) e) ∙ is))
      ]

  module _ (set : List ℕ) (r : Region) (follows : Follows (snapped d) arcs label set r) where
    -- the left side of a dart
    side_belongs : (b : Bool) (l : Segment) → Contains (links_of (snapped d)) l → SideBelongs (links_of (snapped d)) (Has (snapped d) arcs r) b l ↔ Contains set (label (left_of (record { link = l; forward = b })))
    side_belongs true l c = left_belongs S (links_arranged d) (links_distinct d) label (labels_faces d arcs faces label walked) set (Has (snapped d) arcs r) follows l c
    side_belongs false l c = right_belongs S (links_arranged d) (links_distinct d) label (labels_faces d arcs faces label walked) set (Has (snapped d) arcs r) follows l c

    arc_belongs : (a : SignedArc) → a.arc < length arcs → (j : ℕ) (e : Dart) → j < length (map dart_of_step (steps (arc_of arcs a.arc))) →
        (let c = directed_as a (get_or (map dart_of_step (steps (arc_of arcs a.arc))) j e) in SideBelongs (links_of (snapped d)) (Has (snapped d) arcs r) c.forward c.link ↔ Contains set (face_left_of faces.places a))
    arc_belongs a below j e there =
        let c : Dart = directed_as a (get_or (map dart_of_step (steps (arc_of arcs a.arc))) j e) in
        let on : Contains S c.link = dart_there S (links_arranged d) arcs walked.table.long walked.table.links faces label walked.labelled a.arc below j e there a.is_reversed in
        let is : label (left_of c) ≡ face_left_of faces.places a = label_there S (links_arranged d) arcs walked.table.long walked.table.links faces label walked.labelled a.arc below j e there a.is_reversed in
        subst (λ (f : ℕ). SideBelongs (links_of (snapped d)) (Has (snapped d) arcs r) c.forward c.link ↔ Contains set f) is (side_belongs c.forward c.link on)

    -- a face of the set has a point of the region
    point_of_face : (k : ℕ) → IsInnerFace faces k → Contains set k → (z : RationalPoint) × IsOffLinks (links_of (snapped d)) z × Has (snapped d) arcs r z
    point_of_face k h c =
        let (l, there, side) = side_of_inner k h in
        elim side [
          | inl e ↦ (let (z, sees, in_r) = (left_belongs S (links_arranged d) (links_distinct d) label (labels_faces d arcs faces label walked) set (Has (snapped d) arcs r) follows l there).1 (subst (Contains set) (sym e) c) in (z, off_from_left S l z sees, in_r))
          | inr e ↦ (let (z, sees, in_r) = (right_belongs S (links_arranged d) (links_distinct d) label (labels_faces d arcs faces label walked) set (Has (snapped d) arcs r) follows l there).1 (subst (Contains set) (sym e) c) in (z, off_from_right S l z sees, in_r))
        ]

  -- a set of inner faces that no link parts from others has none
  none_parted : (set : List ℕ) → IsSetOf faces set → ((l : Segment) → Contains (links_of (snapped d)) l → has nat_eq set (label (left_side l)) ≡ has nat_eq set (label (right_side l))) → (k : ℕ) → Contains set k → ⊥
  none_parted set inner same k c =
      let labelling = labels_faces d arcs faces label walked in
      let (l, there, side) = side_of_inner k (All-contains (IsInnerFace faces) set k inner c) in
      let out = outside_is_not S (links_arranged d) (links_distinct d) arcs walked.table.long walked.table.links (arcs_free d arcs faces label walked) faces walked.built label walked.labelled set inner in
      let one : (b : Place) → IsBeside S b → has nat_eq set (label b) ≡ false = (λ b beside.
      connected S (links_arranged d) (rotations_exist S (links_arranged d) (links_distinct d)) (λ (place : Place). has nat_eq set (label place)) (among_agrees S label labelling.agrees (has nat_eq set)) same b beside ∙ out) in
      elim side [
        | inl e ↦ clash (has nat_eq set (label (left_side l))) (one (left_side l) there) (Contains_has set (label (left_side l)) (subst (Contains set) (sym e) c))
        | inr e ↦ clash (has nat_eq set (label (right_side l))) (one (right_side l) there) (Contains_has set (label (right_side l)) (subst (Contains set) (sym e) c))
      ]
    where
      clash : (b : Bool) → b ≡ false → b ≡ true → ⊥
      clash b e f = let g : false ≡ true = sym e ∙ f in absurd (cc)

no_elements : (xs : List ℕ) → ((k : ℕ) → Contains xs k → ⊥) → xs ≡ []
no_elements [] h = refl
no_elements (x ∷ xs) h = absurd (h x (Contains-head x xs))

pub sets_are_of_sides : SetsAreOfSides
sets_are_of_sides d arcs faces label walked set inner r follows = (
  λ a below j e there. arc_belongs d arcs faces label walked set r follows a below j e there,
  λ f c. arc_of_inner d arcs faces label walked f (All-contains (IsInnerFace faces) set f inner c),
)

pub empty_sets_are_empty_regions : EmptySetsAreEmptyRegions
empty_sets_are_empty_regions d arcs faces label walked set inner r follows = (
  (
    λ e z off in_r. (let (a, here) = place_exists (links_of (snapped d)) (links_arranged d) z in Contains-nil (label a) (subst (λ (xs : List ℕ). Contains xs (label a)) e ((follows z off a here).0 in_r))),
    λ none. no_elements set (λ k c. let (z, off, in_r) = point_of_face d arcs faces label walked set r follows k (All-contains (IsInnerFace faces) set k inner c) c in none z off in_r),
  ),
  λ left right sides. (
    λ e. none_apart left right (links_of (snapped d)) (λ l c.
        sym (left_same d arcs faces label walked set r follows left right sides l c) ∙ (λ i. has nat_eq (e i) (label (left_side l))) ∙ sym (λ i. has nat_eq (e i) (label (right_side l)))
        ∙ right_same d arcs faces label walked set r follows left right sides l c),
    λ none. no_elements set (none_parted d arcs faces label walked set inner (λ l c.
        left_same d arcs faces label walked set r follows left right sides l c ∙ apart_none left right (links_of (snapped d)) none l c ∙ sym (right_same d arcs faces label walked set r follows left right sides l c))),
  ),
)

-- ---- one set

pub one_set_follows : OneSetFollows
one_set_follows d arcs faces label walked f g up_f up_g inner_f inner_g r in_f in_g =
    one_ascending nat_lt nat_order f g (to_ascending f up_f) (to_ascending g up_g) (λ k c. to f g inner_f in_f in_g k c) (λ k c. to g f inner_g in_g in_f k c)
  where
    to : (p q : List ℕ) → IsSetOf faces p → Follows (snapped d) arcs label p r → Follows (snapped d) arcs label q r → (k : ℕ) → Contains p k → Contains q k
    to p q inner in_p in_q k c =
        let S : List Segment = links_of (snapped d) in
        let labelling = labels_faces d arcs faces label walked in
        let (l, there, side) = side_of_inner d arcs faces label walked k (All-contains (IsInnerFace faces) p k inner c) in
        elim side [
          | inl e ↦ subst (Contains q) e ((left_belongs S (links_arranged d) (links_distinct d) label labelling q (Has (snapped d) arcs r) in_q l there).0
              ((left_belongs S (links_arranged d) (links_distinct d) label labelling p (Has (snapped d) arcs r) in_p l there).1 (subst (Contains p) (sym e) c)))
          | inr e ↦ subst (Contains q) e ((right_belongs S (links_arranged d) (links_distinct d) label labelling q (Has (snapped d) arcs r) in_q l there).0
              ((right_belongs S (links_arranged d) (links_distinct d) label labelling p (Has (snapped d) arcs r) in_p l there).1 (subst (Contains p) (sym e) c)))
        ]

-- ---- sets cleaned by the areas of regions

pub cleaned_by_regions : CleanedByRegions
cleaned_by_regions d arcs faces label walked sets up inner region each left right sides rule cleaned is n l =
    let S : List Segment = links_of (snapped d) in
    let below : n < length sets = (let e = is.count in omega arith) in
    let area : (m : ℕ) → m < length sets → area_of faces.areas (set_at sets m) ≡ area_within S left right m =
    (λ m b. areas_are_those_of_regions d arcs faces label walked (set_at sets m) (up m [] b) (inner m [] b) (region m) (each m b) (left m) (right m) (sides m b)) in
    let same = filter_same (λ (m : ℕ). ranks_before rule m (area_of faces.areas (set_at sets m)) n (area_of faces.areas (set_at sets n))) (λ (m : ℕ). ranks_before rule m (area_within S left right m) n (area_within S left right n))
    (range_with_len 0 (length sets)) (λ m c i. ranks_before rule m (area m (of_range (length sets) m c) i) n (area n below i)) in
    subst (λ (ns : List ℕ). Follows (snapped d) arcs label (set_at cleaned n) (less (region n) (any_of (regions_at region ns)))) same
    (cleaned_sets_are_followed (snapped d) arcs label sets region rule faces.areas cleaned each is n l)
