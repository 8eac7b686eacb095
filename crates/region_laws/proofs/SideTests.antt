-- Tests of the sides of links, for a region that a set of faces follows.
use Rattle.std.proofs.Common.{◌≡◌, refl, ℕ, Bool, List, [], ◌∷◌, Contains, nat_eq}
use Rattle.std.specs.Cmp.{both_ways}
use Rattle.std.specs.List.{cons_option}
use Rattle.lists.specs.Lists.{has}
use Rattle.lists.proofs.Members.{Contains-head, Contains-later}
use Rattle.plane_model.specs.Points.{Segment, Path}
use Rattle.plane_model.specs.Boundary.{boundary_by, boundary_step}
use Rattle.plane_model.specs.Drawing.{Drawing}
use Rattle.plane_model.specs.Snapped.{links_of, snapped}
use Rattle.plane_faces.specs.Places.{Place, left_side, right_side}
use Rattle.face_walk.specs.Places.{FaceTable}
use Rattle.face_sets.proofs.BoundaryLemmas.{Contains_has, has_Contains}
use Rattle.region_model.specs.Region.{Region, Has}
use Rattle.region_laws.specs.Regions.{Follows}
use Rattle.region_model.specs.Answers.{AreSides}
use Rattle.region_laws.specs.Followed.{IsWalked}
use Rattle.region_laws.proofs.Sides.{left_belongs, right_belongs}
use Rattle.region_laws.proofs.Walked.{labels_faces, links_arranged, links_distinct}

module _ (d : Drawing) (arcs : List Path) (faces : FaceTable) (label : Place → ℕ) (walked : IsWalked d arcs faces label) (set : List ℕ) (r : Region) (follows : Follows (snapped d) arcs label set r)
    (left right : Segment → Bool) (sides : AreSides (links_of (snapped d)) (Has (snapped d) arcs r) left right) (l : Segment) (c : Contains (links_of (snapped d)) l) where
  pub left_same : has nat_eq set (label (left_side l)) ≡ left l
  left_same =
      let by = left_belongs (links_of (snapped d)) (links_arranged d) (links_distinct d) label (labels_faces d arcs faces label walked) set (Has (snapped d) arcs r) follows l c in
      both_ways (has nat_eq set (label (left_side l))) (left l) (λ e. (sides.left_side l c).1 (by.1 (has_Contains set (label (left_side l)) e))) (λ e. Contains_has set (label (left_side l)) (by.0 ((sides.left_side l c).0 e)))

  pub right_same : has nat_eq set (label (right_side l)) ≡ right l
  right_same =
      let by = right_belongs (links_of (snapped d)) (links_arranged d) (links_distinct d) label (labels_faces d arcs faces label walked) set (Has (snapped d) arcs r) follows l c in
      both_ways (has nat_eq set (label (right_side l))) (right l) (λ e. (sides.right_side l c).1 (by.1 (has_Contains set (label (right_side l)) e))) (λ e. Contains_has set (label (right_side l)) (by.0 ((sides.right_side l c).0 e)))

-- tests that agree give one boundary
pub one_boundary : (f g p q : Segment → Bool) (S : List Segment) → ((l : Segment) → Contains S l → f l ≡ p l) → ((l : Segment) → Contains S l → g l ≡ q l) → boundary_by f g S ≡ boundary_by p q S
one_boundary f g p q [] e h = refl
one_boundary f g p q (l ∷ S) e h =
    (λ i. cons_option (boundary_step (e l (Contains-head l S) i) (h l (Contains-head l S) i) l) (one_boundary f g p q S (λ k c. e k (Contains-later l S k c)) (λ k c. h k (Contains-later l S k c)) i))
