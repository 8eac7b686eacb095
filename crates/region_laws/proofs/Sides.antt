-- The sides of links that belong to the points of a set of faces, and which of these points are joined.
use Rattle.std.proofs.Common.{◌≡◌, inl, inr, sym, subst, ℕ, false, nat_eq, List, Contains}
use Rattle.std.specs.Prelude.{◌↔◌}
use Rattle.std.proofs.lemmas.List.Elements.{All-weaker, All-contains, All-contains_itself}
use Rattle.lists.specs.Lists.{has}
use Rattle.plane_model.specs.Points.{RationalPoint, Segment}
use Rattle.plane_model.specs.Arrangement.{IsArrangement, IsDistinct}
use Rattle.plane_model.specs.Joined.{AreBoundaryLinks, AreJoinedIn, IsBoundaryLink}
use Rattle.plane_model.specs.Sees.{IsOffLinks, SeesLeft, SeesRight}
use Rattle.plane_model.specs.Sides.{LeftIn, Points, RightIn}
use Rattle.plane_parity.proofs.Visible.{seen_from_left, seen_from_right}
use Rattle.plane_faces.specs.Classes.{PointsWhere}
use Rattle.plane_faces.specs.Labels.{IsFaceLabelling, IsPartLabelling, among}
use Rattle.plane_faces.specs.Places.{Place, outside, IsPlaceOf, left_side, right_side}
use Rattle.plane_faces.proofs.Classes.{parts_are_joined}
use Rattle.plane_faces.proofs.Order.{place_exists}
use Rattle.plane_faces.proofs.Sighted.{label_from_left, label_from_right}
use Rattle.plane_faces.proofs.Sorting.{rotations_exist}
use Rattle.plane_faces.proofs.Tables.{place_is_one}
use Rattle.face_sets.proofs.BoundaryLemmas.{Contains_has, has_Contains}
use Rattle.region_laws.proofs.OffLinks.{off_from_left, off_from_right}

module _ (S : List Segment) (arr : IsArrangement S) (distinct : IsDistinct S) (label : Place → ℕ) (labelling : IsFaceLabelling S label) where
  -- ---- labels in sight

  pub seen_left : (l : Segment) → Contains S l → (z : RationalPoint) → SeesLeft S l z → (a : Place) → IsPlaceOf S z a → label a ≡ label (left_side l)
  seen_left l c z sees a here = label_from_left S arr distinct (rotations_exist S arr distinct) label labelling.agrees l c z sees a here

  pub seen_right : (l : Segment) → Contains S l → (z : RationalPoint) → SeesRight S l z → (a : Place) → IsPlaceOf S z a → label a ≡ label (right_side l)
  seen_right l c z sees a here = label_from_right S arr distinct (rotations_exist S arr distinct) label labelling.agrees l c z sees a here

  -- ---- a set of faces, and the points that follow it

  module _ (set : List ℕ) (R : Points) (follows : (z : RationalPoint) → IsOffLinks S z → (a : Place) → IsPlaceOf S z a → R z ↔ Contains set (label a)) where
    pub left_belongs : (l : Segment) → Contains S l → LeftIn S R l ↔ Contains set (label (left_side l))
    left_belongs l c = (
      λ (z, sees, in_r).
          (let (a, here) = place_exists S arr z in
          subst (Contains set) (seen_left l c z sees a here) ((follows z (off_from_left S l z sees) a here).0 in_r)),
      λ there.
          (let (z, sees) = seen_from_left S arr l c in
          let (a, here) = place_exists S arr z in
          (z, sees, (follows z (off_from_left S l z sees) a here).1 (subst (Contains set) (sym (seen_left l c z sees a here)) there))),
    )

    pub right_belongs : (l : Segment) → Contains S l → RightIn S R l ↔ Contains set (label (right_side l))
    right_belongs l c = (
      λ (z, sees, in_r).
          (let (a, here) = place_exists S arr z in
          subst (Contains set) (seen_right l c z sees a here) ((follows z (off_from_right S l z sees) a here).0 in_r)),
      λ there.
          (let (z, sees) = seen_from_right S arr l c in
          let (a, here) = place_exists S arr z in
          (z, sees, (follows z (off_from_right S l z sees) a here).1 (subst (Contains set) (sym (seen_right l c z sees a here)) there))),
    )

  -- two sets of points that follow one set of faces have one boundary
  module _ (set : List ℕ) (P R : Points) (p_follows : (z : RationalPoint) → IsOffLinks S z → (a : Place) → IsPlaceOf S z a → P z ↔ Contains set (label a))
      (r_follows : (z : RationalPoint) → IsOffLinks S z → (a : Place) → IsPlaceOf S z a → R z ↔ Contains set (label a)) where
    same_boundary_link : (l : Segment) → Contains S l → IsBoundaryLink S P l → IsBoundaryLink S R l
    same_boundary_link l c (inl h) = inl (
      (left_belongs set R r_follows l c).1 ((left_belongs set P p_follows l c).0 h.0),
      λ r. h.1 ((right_belongs set P p_follows l c).1 ((right_belongs set R r_follows l c).0 r)),
    )
    same_boundary_link l c (inr h) = inr (
      (right_belongs set R r_follows l c).1 ((right_belongs set P p_follows l c).0 h.0),
      λ r. h.1 ((left_belongs set P p_follows l c).1 ((left_belongs set R r_follows l c).0 r)),
    )

  module _ (set : List ℕ) (P R : Points) (p_follows : (z : RationalPoint) → IsOffLinks S z → (a : Place) → IsPlaceOf S z a → P z ↔ Contains set (label a))
      (r_follows : (z : RationalPoint) → IsOffLinks S z → (a : Place) → IsPlaceOf S z a → R z ↔ Contains set (label a)) where
    pub same_boundary : (boundary : List Segment) → AreBoundaryLinks S P boundary → AreBoundaryLinks S R boundary
    same_boundary boundary are = record {
      links = All-weaker (Contains boundary) (λ l. Contains S l × IsBoundaryLink S R l)
          (λ l c. let i = All-contains (λ m. Contains S m × IsBoundaryLink S P m) boundary l are.links c in (i.0, same_boundary_link set P R p_follows r_follows l i.0 i.1))
          boundary (All-contains_itself boundary);
      all = λ l c h. are.all l c (same_boundary_link set R P r_follows p_follows l c h);
    }

    same_joined : (u v : RationalPoint) → AreJoinedIn S R u v → AreJoinedIn S P u v
    same_joined u v joined boundary are = joined boundary (same_boundary boundary are)

  -- two points are joined in what follows a set exactly if they are in one part of it
  pub joined_by_parts : (set : List ℕ) (R : Points) → ((z : RationalPoint) → IsOffLinks S z → (a : Place) → IsPlaceOf S z a → R z ↔ Contains set (label a)) → has nat_eq set (label outside) ≡ false →
      (part : ℕ → ℕ) → IsPartLabelling S label (has nat_eq set) part → (u v : RationalPoint) (a b : Place) → IsPlaceOf S u a → IsPlaceOf S v b → Contains set (label a) → Contains set (label b) →
      (part (label a) ≡ part (label b)) ↔ AreJoinedIn S R u v
  joined_by_parts set R follows none part parts u v a b at_u at_v in_a in_b =
      let P : Points = PointsWhere S (among label (has nat_eq set)) in
      let p_follows : (z : RationalPoint) → IsOffLinks S z → (c : Place) → IsPlaceOf S z c → P z ↔ Contains set (label c) = (λ z off c here. (
        λ (e, at_e, held). subst (λ (x : Place). Contains set (label x)) (place_is_one S arr z e c at_e here) (has_Contains set (label e) held),
        λ there. (c, here, Contains_has set (label c) there),
      )) in
      let by = parts_are_joined S arr distinct label labelling (has nat_eq set) none part parts u v a b at_u at_v (Contains_has set (label a) in_a) (Contains_has set (label b) in_b) in (
        λ e. same_joined set R P follows p_follows u v (by.0 e),
        λ joined. by.1 (same_joined set P R p_follows follows u v joined),
      )
