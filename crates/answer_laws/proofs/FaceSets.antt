-- Sets of points that can be told, and have all points of a face or none: so the sides of links that belong to them can
-- be told too.
use Rattle.std.proofs.Common.{◌≡◌, inl, inr, refl, sym, ap, ◌∙◌, ℕ, Bool, List, Contains}
use Rattle.plane_model.specs.Points.{GridPoint, RationalPoint, Segment, same_point, same_segment}
use Rattle.plane_model.specs.Arrangement.{IsArrangement, IsDistinct}
use Rattle.plane_model.specs.Joined.{AreOfOneFace}
use Rattle.plane_model.specs.Sees.{IsOffLinks, SeesLeft, SeesRight}
use Rattle.plane_model.specs.Sides.{Points, LeftIn, RightIn}
use Rattle.plane_model.proofs.PointOrder.{same_point_from, same_point_to}
use Rattle.plane_parity.proofs.Abscissa.{same_link-self, same_link-true}
use Rattle.plane_parity.proofs.Visible.{seen_from_left, seen_from_right}
use Rattle.plane_faces.specs.Labels.{IsFaceLabelling}
use Rattle.plane_faces.specs.Places.{Place, outside, left_of, left_side, right_side, IsPlaceOf}
use Rattle.plane_faces.proofs.Classes.{labels_are_faces}
use Rattle.plane_faces.proofs.Joining.{face_labelling}
use Rattle.plane_faces.proofs.Order.{place_exists}
use Rattle.plane_faces.proofs.Sighted.{label_from_left, label_from_right}
use Rattle.plane_faces.proofs.Sorting.{rotations_exist}
use Rattle.region_model.specs.Answers.{AreSides}
use Rattle.region_laws.proofs.FarLeft.{exists_far_left, left_is_outside}
use Rattle.region_laws.proofs.OffLinks.{off_from_left}
use Rattle.answer_laws.proofs.Deciding.{IsTold, same_told, some_told, test_told, tested}

pub points_told : (p q : GridPoint) → IsTold (p ≡ q)
points_told p q = same_told (same_point_from p q) (same_point_to p q) (test_told (same_point p q))

pub links_told : (k l : Segment) → IsTold (k ≡ l)
links_told k l = same_told (λ e. sym (same_link-true k l e)) (λ e. ap (same_segment k) (sym e) ∙ same_link-self k) (test_told (same_segment k l))

pub record IsFaceSet (S : List Segment) (Q : Points) : Type 0 where
  pub told : (z : RationalPoint) → IsTold (Q z)
  pub faces : (u v : RationalPoint) → AreOfOneFace S u v → Q u → Q v

module _ (S : List Segment) (arr : IsArrangement S) (distinct : IsDistinct S) where
  pub label : Place → ℕ
  label = (face_labelling S arr distinct).0

  pub labelling : IsFaceLabelling S label
  unfolding label
  labelling = (face_labelling S arr distinct).1

  pub one_face : (u v : RationalPoint) (a b : Place) → IsPlaceOf S u a → IsPlaceOf S v b → label a ≡ label b → AreOfOneFace S u v
  one_face u v a b at_u at_v e = (labels_are_faces S arr distinct label labelling u v a b at_u at_v).0 e

  pub from_left : (l : Segment) → Contains S l → (z : RationalPoint) → SeesLeft S l z → (a : Place) → IsPlaceOf S z a → label a ≡ label (left_side l)
  from_left l c z sees a here = label_from_left S arr distinct (rotations_exist S arr distinct) label labelling.agrees l c z sees a here

  pub from_right : (l : Segment) → Contains S l → (z : RationalPoint) → SeesRight S l z → (a : Place) → IsPlaceOf S z a → label a ≡ label (right_side l)
  from_right l c z sees a here = label_from_right S arr distinct (rotations_exist S arr distinct) label labelling.agrees l c z sees a here

  module _ (Q : Points) (set : IsFaceSet S Q) where
    -- a set has all points of the face on a side of a link that belongs to it
    pub left_has : (l : Segment) → Contains S l → LeftIn S Q l → (z : RationalPoint) (a : Place) → IsPlaceOf S z a → label a ≡ label (left_side l) → Q z
    left_has l c (w, sees, q) z a here e =
        let (b, there) = place_exists S arr w in
        set.faces w z (one_face w z b a there here (from_left l c w sees b there ∙ sym e)) q

    pub right_has : (l : Segment) → Contains S l → RightIn S Q l → (z : RationalPoint) (a : Place) → IsPlaceOf S z a → label a ≡ label (right_side l) → Q z
    right_has l c (w, sees, q) z a here e =
        let (b, there) = place_exists S arr w in
        set.faces w z (one_face w z b a there here (from_right l c w sees b there ∙ sym e)) q

    pub has_left : (l : Segment) → Contains S l → (z : RationalPoint) (a : Place) → IsPlaceOf S z a → label a ≡ label (left_side l) → Q z → LeftIn S Q l
    has_left l c z a here e q =
        let (w, sees) = seen_from_left S arr l c in
        let (b, there) = place_exists S arr w in
        (w, sees, set.faces z w (one_face z w a b here there (e ∙ sym (from_left l c w sees b there))) q)

    pub has_right : (l : Segment) → Contains S l → (z : RationalPoint) (a : Place) → IsPlaceOf S z a → label a ≡ label (right_side l) → Q z → RightIn S Q l
    has_right l c z a here e q =
        let (w, sees) = seen_from_right S arr l c in
        let (b, there) = place_exists S arr w in
        (w, sees, set.faces z w (one_face z w a b here there (e ∙ sym (from_right l c w sees b there))) q)

    -- one point of the face tells
    pub left_told : (l : Segment) → Contains S l → IsTold (LeftIn S Q l)
    left_told l c =
        let (w, sees) = seen_from_left S arr l c in
        let (b, there) = place_exists S arr w in
        same_told (λ q. (w, sees, q)) (λ h. left_has l c h w b there (from_left l c w sees b there)) (set.told w)

    pub right_told : (l : Segment) → Contains S l → IsTold (RightIn S Q l)
    right_told l c =
        let (w, sees) = seen_from_right S arr l c in
        let (b, there) = place_exists S arr w in
        same_told (λ q. (w, sees, q)) (λ h. right_has l c h w b there (from_right l c w sees b there)) (set.told w)

    pub sides_tested : (left : Segment → Bool) × (right : Segment → Bool) × AreSides S Q left right
    sides_tested =
        let (left, on_left) = tested links_told (LeftIn S Q) S left_told in
        let (right, on_right) = tested links_told (RightIn S Q) S right_told in
        (left, right, record { left_side = on_left; right_side = on_right })

    -- ---- some point of the set

    -- a point is of one face with one left of all links, or with those that see some link from its left
    found : (far : RationalPoint) → IsPlaceOf S far outside → (Q far → ⊥) → (z : RationalPoint) × IsOffLinks S z × Q z → (l : Segment) × Contains S l × LeftIn S Q l
    found far at_far none (z, off, q) = let (a, here) = place_exists S arr z in by_place a here
      where
        by_place : (a : Place) → IsPlaceOf S z a → (l : Segment) × Contains S l × LeftIn S Q l
        by_place outside here = absurd (none (set.faces z far (one_face z far outside outside here at_far refl) q))
        by_place (left_of e) here = (e.link, here.1, has_left e.link here.1 z (left_of e) here (ap (λ (b : Bool). label (left_of (record { link = e.link; forward = b }))) here.0) q)

    pub point_told : IsTold ((z : RationalPoint) × IsOffLinks S z × Q z)
    point_told =
        let (far, off, left) = exists_far_left S arr in
        elim (set.told far) [
          | inl q ↦ inl (far, off, q)
          | inr none ↦ same_told (λ (h : (l : Segment) × Contains S l × LeftIn S Q l). (let (l, c, (z, sees, q)) = h in (z, off_from_left S l z sees, q))) (found far (left_is_outside S far left) none) (some_told (LeftIn S Q) S left_told)
        ]
