-- Two points lie in one printed polygon exactly if they are joined in the region: points in one part are joined, for
-- both see links of its least arc.
use Rattle.std.proofs.Common.{◌≡◌, ◌⊎◌, inl, inr, sym, ap, subst, ◌∙◌, arith, ℕ, ◌<◌, true, List, [], ◌∷◌, length, get_or, nat_lt, Contains}
use Rattle.std.specs.Prelude.{Any}
use Rattle.std.proofs.lemmas.Bool.{cases_eq, cases_lt, ltb-true}
use Rattle.std.proofs.lemmas.List.{get_or_default}
use Rattle.region_laws.proofs.Walked.{links_arranged, links_distinct}
use Rattle.lists.proofs.Ascending.{IsAscending}
use Rattle.lists.proofs.Members.{Contains-cases, Contains-head, Contains-later, Contains-nil}
use Rattle.plane_model.specs.Points.{RationalPoint, Segment, Path}
use Rattle.plane_model.specs.Arcs.{arcs_of}
use Rattle.plane_model.specs.Drawing.{Drawing, Polygon}
use Rattle.plane_model.specs.Joined.{AreJoinedIn, AreOfOneFace, IsBoundaryLink, links_of_arc}
use Rattle.plane_model.specs.Parity.{rings_hold}
use Rattle.plane_model.specs.Sees.{IsOffLinks, SeesLeft, SeesRight}
use Rattle.plane_model.specs.Sides.{Points, LeftIn, RightIn}
use Rattle.plane_model.specs.Snapped.{links_of, snapped}
use Rattle.plane_model.specs.SnappedRings.{HasClosedRings}
use Rattle.plane_parity.proofs.Visible.{seen_from_left, seen_from_right}
use Rattle.plane_faces.specs.Labels.{IsFaceLabelling}
use Rattle.plane_faces.specs.Places.{Place, IsPlaceOf, left_side, right_side}
use Rattle.plane_faces.proofs.Classes.{labels_are_faces}
use Rattle.plane_faces.proofs.Joining.{face_labelling}
use Rattle.plane_faces.proofs.Order.{place_exists}
use Rattle.plane_faces.proofs.Sighted.{label_from_left, label_from_right}
use Rattle.plane_faces.proofs.Sorting.{rotations_exist}
use Rattle.face_sets.proofs.SetLemmas.{to_ascending}
use Rattle.region_model.specs.Region.{Region, Has, IsInPart}
use Rattle.region_model.specs.Printed.{PolygonsAreParts, polygon_holds}
use Rattle.printed_laws.proofs.Agreed.{readings_agree}
use Rattle.printed_laws.proofs.ArcSides.{IsFaceBeside, arc_sides}
use Rattle.printed_laws.proofs.Constant.{has_face, joined_back, joined_by_face, joined_on}
use Rattle.printed_laws.proofs.Counted.{joined_points_are_held_by_one, part_at}

-- ---- parts of one place have one number

-- of two ascending lists the one that has all of the other, and a greater number, is longer
longer : (xs ys : List ℕ) (m : ℕ) → IsAscending nat_lt xs → IsAscending nat_lt ys → ((x : ℕ) → Contains xs x → (x < m) × Contains ys x) → Contains ys m → length xs < length ys
longer xs [] m up_x up_y h c = Contains-nil m c
longer [] (y ∷ ys) m up_x up_y h c = omega arith
longer (x ∷ xs) (y ∷ ys) m up_x up_y h c = elim (cases_eq x y) [
  | inl e ↦ (let fewer = longer xs ys m up_x.1 up_y.1 (λ z k. ((h z (Contains-later x xs z k)).0, past z (h z (Contains-later x xs z k)).1 (let over = after z k in omega arith))) (past m c (let least = h x (Contains-head x xs) in let low = least.0 in omega arith)) in omega arith)
  | inr n ↦
      (let first : Contains ys x = elim (Contains-cases y ys x (h x (Contains-head x xs)).1) [ inl e ↦ absurd (n (sym e)) | inr k ↦ k ] in
      let below : y < x = ltb-true y x (up_y.0 x first) in
      let fewer = longer (x ∷ xs) ys m up_x up_y.1 (λ z k. ((h z k).0, past z (h z k).1 (elim (Contains-cases x xs z k) [ inl e ↦ (omega arith) | inr l ↦ (let over = after z l in omega arith) ])))
      (past m c (let least = h x (Contains-head x xs) in let low = least.0 in omega arith)) in
      omega arith)
]
  where
    past : (z : ℕ) → Contains (y ∷ ys) z → y < z → Contains ys z
    past z k less = elim (Contains-cases y ys z k) [ inl e ↦ absurd (omega arith) | inr l ↦ l ]

    after : (z : ℕ) → Contains xs z → x < z
    after z k = ltb-true x z (up_x.0 z k)

module _ (S : List Segment) (arcs : List Path) (R : Points) (j : ℕ) where
  -- the part with the lesser number would have a lesser place
  not_less : (z w : RationalPoint) → IsOffLinks S z → R z → (h : IsInPart S arcs R z j) (k : IsInPart S arcs R w j) → h.number < k.number → ⊥
  not_less z w off in_r h k less =
      let fewer = longer h.lesser k.lesser h.number (to_ascending h.lesser h.rising) (to_ascending k.lesser k.rising)
      (λ n c. (let (below, some) = (h.are n).0 c in (below, (k.are n).1 (omega arith, some)))) ((k.are h.number).1 (less, (z, off, in_r, h.is_number))) in
      let size_h = h.count in
      let size_k = k.count in
      omega arith

  one_number : (z w : RationalPoint) → IsOffLinks S z → IsOffLinks S w → R z → R w → (h : IsInPart S arcs R z j) (k : IsInPart S arcs R w j) → h.number ≡ k.number
  one_number z w off_z off_w in_z in_w h k = elim (cases_lt h.number k.number) [
    | inl less ↦ absurd (not_less z w off_z in_z h k less)
    | inr more ↦ elim (cases_lt k.number h.number) [ inl less ↦ absurd (not_less w z off_w in_w k h less) | inr same ↦ omega arith ]
  ]

-- ---- points of one part are joined

module _ (d : Drawing) (closed : HasClosedRings d) (r : Region) where
  abbrev S : List Segment
  S = links_of (snapped d)

  abbrev arcs : List Path
  arcs = arcs_of (snapped d) S

  abbrev R : Points
  R z = Has (snapped d) (arcs_of (snapped d) (links_of (snapped d))) r z

  label : Place → ℕ
  label = (face_labelling S (links_arranged d) (links_distinct d)).0

  labelling : IsFaceLabelling (links_of (snapped d)) label
  unfolding label
  labelling = (face_labelling S (links_arranged d) (links_distinct d)).1

  -- points whose places have one label are of one face
  one_face : (u v : RationalPoint) (a b : Place) → IsPlaceOf S u a → IsPlaceOf S v b → label a ≡ label b → AreOfOneFace S u v
  one_face u v a b at_u at_v e = (labels_are_faces S (links_arranged d) (links_distinct d) label labelling u v a b at_u at_v).0 e

  from_left : (l : Segment) → Contains S l → (z : RationalPoint) → SeesLeft S l z → (a : Place) → IsPlaceOf S z a → label a ≡ label (left_side l)
  from_left l c z sees a here = label_from_left S (links_arranged d) (links_distinct d) (rotations_exist S (links_arranged d) (links_distinct d)) label labelling.agrees l c z sees a here

  from_right : (l : Segment) → Contains S l → (z : RationalPoint) → SeesRight S l z → (a : Place) → IsPlaceOf S z a → label a ≡ label (right_side l)
  from_right l c z sees a here = label_from_right S (links_arranged d) (links_distinct d) (rotations_exist S (links_arranged d) (links_distinct d)) label labelling.agrees l c z sees a here

  -- the face of a point of the region that is on the left of a link, or on its right
  left_has : (l : Segment) → Contains S l → (u : RationalPoint) (a : Place) → IsPlaceOf S u a → R u → label a ≡ label (left_side l) → LeftIn S R l
  left_has l c u a at_u in_r e =
      let (z, sees) = seen_from_left S (links_arranged d) l c in
      let (b, at_z) = place_exists S (links_arranged d) z in
      (z, sees, has_face d closed arcs r u z (one_face u z a b at_u at_z (e ∙ sym (from_left l c z sees b at_z))) in_r)

  right_has : (l : Segment) → Contains S l → (u : RationalPoint) (a : Place) → IsPlaceOf S u a → R u → label a ≡ label (right_side l) → RightIn S R l
  right_has l c u a at_u in_r e =
      let (z, sees) = seen_from_right S (links_arranged d) l c in
      let (b, at_z) = place_exists S (links_arranged d) z in
      (z, sees, has_face d closed arcs r u z (one_face u z a b at_u at_z (e ∙ sym (from_right l c z sees b at_z))) in_r)

  -- no link of the boundary has the region on both sides
  both_sides : (l : Segment) → IsBoundaryLink S R l → LeftIn S R l → RightIn S R l → ⊥
  both_sides l (inl h) left right = h.1 right
  both_sides l (inr h) left right = h.1 left

  -- a link of the boundary has one face of the region on its sides
  one_side : (l : Segment) → Contains S l → IsBoundaryLink S R l → (u v : RationalPoint) (a b : Place) → IsPlaceOf S u a → IsPlaceOf S v b → R u → R v → IsFaceBeside label l (label a) → IsFaceBeside label l (label b) → label a ≡ label b
  one_side l c bounding u v a b at_u at_v in_u in_v (inl e) (inl f) = e ∙ sym f
  one_side l c bounding u v a b at_u at_v in_u in_v (inr e) (inr f) = e ∙ sym f
  one_side l c bounding u v a b at_u at_v in_u in_v (inl e) (inr f) = absurd (both_sides l bounding (left_has l c u a at_u in_u e) (right_has l c v b at_v in_v f))
  one_side l c bounding u v a b at_u at_v in_u in_v (inr e) (inl f) = absurd (both_sides l bounding (left_has l c v b at_v in_v f) (right_has l c u a at_u in_u e))

  -- a point that sees a link has the face on one side of it
  beside : (l : Segment) → Contains S l → (z : RationalPoint) → SeesLeft S l z ⊎ SeesRight S l z → (a : Place) → IsPlaceOf S z a → IsFaceBeside label l (label a)
  beside l c z (inl sees) a here = inl (from_left l c z sees a here)
  beside l c z (inr sees) a here = inr (from_right l c z sees a here)

  -- both parts have links of one arc in their boundaries, so that points of both see links with one face of the region
  -- on their sides
  pub joined_in_part : (j : ℕ) (z w : RationalPoint) → IsOffLinks (links_of (snapped d)) z → IsOffLinks (links_of (snapped d)) w → R z → R w → IsInPart (links_of (snapped d)) (arcs_of (snapped d) (links_of (snapped d))) R z j → IsInPart (links_of (snapped d)) (arcs_of (snapped d) (links_of (snapped d))) R w j →
      AreJoinedIn (links_of (snapped d)) R z w
  joined_in_part j z w off_z off_w in_z in_w h k =
      let same = one_number S arcs R j z w off_z off_w in_z in_w h k in
      let (l, on_l, (bounding, (u, (in_u, z_to_u), u_sees))) = h.is_number.is_arc in
      let (m, on_m, (_, (v, (in_v, w_to_v), v_sees))) = k.is_number.is_arc in
      let (x, y, sides) = arc_sides (snapped d) (links_arranged d) label labelling.agrees h.number in
      let (there_l, of_l) = sides l on_l in
      let (there_m, of_m) = sides m (subst (λ (n : ℕ). Contains (links_of_arc arcs n) m) (sym same) on_m) in
      let (a, at_u) = place_exists S (links_arranged d) u in
      let (b, at_v) = place_exists S (links_arranged d) v in
      let e = one_side l there_l bounding u v a b at_u at_v in_u in_v (beside l there_l u u_sees a at_u) ((of_l (label b)).1 ((of_m (label b)).0 (beside m there_m v v_sees b at_v))) in
      joined_on S R z u w z_to_u (joined_on S R u v w (joined_by_face S R u v (one_face u v a b at_u at_v e)) (joined_back S R w v w_to_v))

-- ---- the law

pub polygons_are_parts : PolygonsAreParts
polygons_are_parts d A r polygons h z w off_z off_w has_z has_w = (to, from)
  where
    to : Any (λ p. (polygon_holds z p ≡ true) × (polygon_holds w p ≡ true)) polygons → AreJoinedIn (links_of (snapped d)) (Has (snapped d) (arcs_of (snapped d) (links_of (snapped d))) r) z w
    to (k, p, below, at, (z_in, w_in)) =
        let held_z : rings_hold z (get_or polygons k p) ≡ true = readings_agree d A r polygons h z off_z k p below ∙ ap (λ (q : Polygon). polygon_holds z q) at ∙ z_in in
        let held_w : rings_hold w (get_or polygons k p) ≡ true = readings_agree d A r polygons h w off_w k p below ∙ ap (λ (q : Polygon). polygon_holds w q) at ∙ w_in in
        joined_in_part d h.closed r k z w off_z off_w has_z has_w ((part_at d A r polygons h z off_z k p below).0 held_z).1 ((part_at d A r polygons h w off_w k p below).0 held_w).1

    from : AreJoinedIn (links_of (snapped d)) (Has (snapped d) (arcs_of (snapped d) (links_of (snapped d))) r) z w → Any (λ p. (polygon_holds z p ≡ true) × (polygon_holds w p ≡ true)) polygons
    from joined =
        let (k, below, held, others) = joined_points_are_held_by_one d A r polygons h z off_z has_z in (
          k,
          get_or polygons k [],
          below,
          get_or_default polygons k (get_or polygons k []) [] below,
          (sym (readings_agree d A r polygons h z off_z k [] below) ∙ held, sym (readings_agree d A r polygons h w off_w k [] below) ∙ others w off_w has_w joined),
        )
