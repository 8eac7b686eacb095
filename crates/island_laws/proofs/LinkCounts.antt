-- The number of links along the boundary of a set of faces is that of the boundary of its region: each arc with a face
-- of the set on one side alone counts its links, and so does the boundary of the region.
use Rattle.std.proofs.Common.{◌≡◌, refl, sym, ap, ◌∙◌, arith, ℕ, suc, ◌+◌, ◌-◌, ◌<◌, ℤ, pos, ◌+ℤ◌, Bool, true, false, not, cond, List, [], ◌∷◌, All, length, nat_eq}
use Rattle.std.specs.List.{cons_option, sum_by}
use Rattle.std.specs.List.Sorted.{IsStrictlyIncreasing}
use Rattle.std.proofs.lemmas.Int.{ints}
use Rattle.std.proofs.lemmas.List.Sums.{sum_by-cons}
use Rattle.lists.specs.Lists.{has}
use Rattle.plane_model.specs.Points.{Segment, Path, is_before, link_between, reversed}
use Rattle.plane_model.specs.Drawing.{Drawing, steps}
use Rattle.plane_model.specs.Arcs.{SignedArc, forward, backward}
use Rattle.plane_model.specs.Arrangement.{IsArrangement, IsDistinct}
use Rattle.plane_model.specs.Boundary.{boundary_by, boundary_step}
use Rattle.plane_model.specs.Snapped.{links_of, snapped}
use Rattle.plane_faces.specs.Around.{opposite}
use Rattle.plane_faces.specs.Places.{Place, left_of, left_side, right_side}
use Rattle.arc_table.specs.Along.{GoAlong}
use Rattle.face_walk.specs.Places.{FaceTable, arcs_with_left, face_left_of, has_left, signed_below}
use Rattle.face_laws.specs.Faces.{IsFaceOfPlace}
use Rattle.face_laws.proofs.StepLemmas.{IsStep, arc_of, steps_counted}
use Rattle.face_sets.specs.Boundary.{is_outward, other_way, outward_at}
use Rattle.face_sets.proofs.SetLemmas.{to_ascending}
use Rattle.part_laws.proofs.LinkLemmas.{left_at, right_at}
use Rattle.calc_ops.specs.Islands as sets
use Rattle.calc_ops.specs.Islands.{border, links_along}
use Rattle.region_model.specs.Region.{Region}
use Rattle.region_model.specs.Answers.{Answers, boundary}
use Rattle.region_laws.specs.Regions.{Follows}
use Rattle.region_laws.specs.Followed.{IsWalked}
use Rattle.region_laws.specs.Answered.{TellSides, plane_with}
use Rattle.region_laws.proofs.SideTests.{left_same, right_same}
use Rattle.region_laws.proofs.Totals.{total, total_filter, total_flat_map, total_once, total_same, total_swap}
use Rattle.region_laws.proofs.Walked.{links_arranged, links_distinct}
use Rattle.region_laws.proofs.Areas.{links_total}

-- ---- what counts where just one of two sides is in

abbrev across : Bool → Bool → ℤ → ℤ
across true true x = pos 0
across true false x = x
across false true x = x
across false false x = pos 0

across_sum : (a b : Bool) (x y : ℤ) → across a b (x +ℤ y) ≡ across a b x +ℤ across a b y
across_sum true true x y = omega (arith, ints)
across_sum true false x y = refl
across_sum false true x y = refl
across_sum false false x y = omega (arith, ints)

across_none : (a b : Bool) → across a b (pos 0) ≡ pos 0
across_none true true = refl
across_none true false = refl
across_none false true = refl
across_none false false = refl

across_turned : (a b : Bool) (x : ℤ) → across b a x ≡ across a b x
across_turned true true x = refl
across_turned true false x = refl
across_turned false true x = refl
across_turned false false x = refl

one_more : (n : ℕ) → pos 1 +ℤ pos n ≡ pos (suc n)
one_more n = omega (arith, ints)

across_each : (a b : Bool) (xs : List Segment) → total (λ (s : Segment). across a b (pos 1)) xs ≡ across a b (pos (length xs))
across_each a b [] = sym (across_none a b)
across_each a b (s ∷ xs) = ap (λ (t : ℤ). across a b (pos 1) +ℤ t) (across_each a b xs) ∙ sym (across_sum a b (pos 1) (pos (length xs))) ∙ ap (across a b) (one_more (length xs))

-- of a boundary
boundary_count : (left right : Segment → Bool) (S : List Segment) → pos (length (boundary_by left right S)) ≡ total (λ (l : Segment). across (left l) (right l) (pos 1)) S
boundary_count left right [] = refl
boundary_count left right (l ∷ S) = go (left l) (right l) ∙ ap (λ (t : ℤ). across (left l) (right l) (pos 1) +ℤ t) (boundary_count left right S)
  where
    none : (t : ℤ) → t ≡ pos 0 +ℤ t
    none t = omega (arith, ints)

    go : (a b : Bool) → pos (length (cons_option (boundary_step a b l) (boundary_by left right S))) ≡ across a b (pos 1) +ℤ pos (length (boundary_by left right S))
    go true true = none (pos (length (boundary_by left right S)))
    go true false = sym (one_more (length (boundary_by left right S)))
    go false true = sym (one_more (length (boundary_by left right S)))
    go false false = none (pos (length (boundary_by left right S)))

sum_total : (f : SignedArc → ℕ) (xs : List SignedArc) → pos (sum_by f xs) ≡ total (λ (a : SignedArc). pos (f a)) xs
sum_total f [] = refl
sum_total f (a ∷ xs) = ap pos (sum_by-cons f a xs) ∙ both (f a) (sum_by f xs) ∙ ap (λ (t : ℤ). pos (f a) +ℤ t) (sum_total f xs)
  where
    both : (m n : ℕ) → pos (m + n) ≡ pos m +ℤ pos n
    both m n = omega (arith, ints)

-- ---- by faces

module _ (arcs : List Path) (faces : FaceTable) (set : List ℕ) (up : IsStrictlyIncreasing set) where
  abbrev links : SignedArc → ℤ
  links a = pos (links_along arcs a)

  abbrev left_in : SignedArc → Bool
  left_in a = has nat_eq set (face_left_of faces.places a)

  -- what a signed arc counts if the face on its right is not in the set, and if, besides, that on its left is
  abbrev kept : SignedArc → ℤ
  kept a = cond (not (left_in (other_way a))) (links a) (pos 0)

  abbrev added : SignedArc → ℤ
  added a = cond (left_in a) (kept a) (pos 0)

  face_links : (k : ℕ) → total links (outward_at faces.places (length arcs) set k) ≡ total (λ (a : SignedArc). cond (nat_eq (face_left_of faces.places a) k) (kept a) (pos 0)) (signed_below (length arcs))
  face_links k =
      total_filter links (is_outward faces.places set) (arcs_with_left faces.places (length arcs) k)
      ∙ total_filter kept (has_left faces.places k) (signed_below (length arcs))

  faces_total : pos (sets.links_of arcs (border arcs faces set)) ≡ total added (signed_below (length arcs))
  faces_total =
      sum_total (links_along arcs) (border arcs faces set)
      ∙ total_flat_map links (outward_at faces.places (length arcs) set) set
      ∙ total_same (λ (k : ℕ). total links (outward_at faces.places (length arcs) set k)) (λ (k : ℕ). total (λ (a : SignedArc). cond (nat_eq (face_left_of faces.places a) k) (kept a) (pos 0)) (signed_below (length arcs))) set
      (λ k c. face_links k)
      ∙ total_swap (λ (k : ℕ) (a : SignedArc). cond (nat_eq (face_left_of faces.places a) k) (kept a) (pos 0)) set (signed_below (length arcs))
      ∙ total_same (λ (a : SignedArc). total (λ (k : ℕ). cond (nat_eq (face_left_of faces.places a) k) (kept a) (pos 0)) set) added (signed_below (length arcs))
      (λ a c. total_once (face_left_of faces.places a) (kept a) set (to_ascending set up))

  -- an arc counts its links, in one direction or the other, where just one of its sides is in
  both_ways : (n : ℕ) → added (forward n) +ℤ (added (backward n) +ℤ pos 0) ≡ across (left_in (forward n)) (left_in (backward n)) (links (forward n))
  both_ways n = go (left_in (forward n)) (left_in (backward n)) (links (forward n))
    where
      go : (a b : Bool) (x : ℤ) → cond a (cond (not b) x (pos 0)) (pos 0) +ℤ (cond b (cond (not a) x (pos 0)) (pos 0) +ℤ pos 0) ≡ across a b x
      go true true x = refl
      go true false x = omega (arith, ints)
      go false true x = omega (arith, ints)
      go false false x = refl

  -- ---- by links

  module _ (S : List Segment) (arr : IsArrangement S) (distinct : IsDistinct S) (long : All (λ arc. 1 < length arc) arcs) (go_along : GoAlong S arcs) (label : Place → ℕ) (by : IsFaceOfPlace arcs faces label) where
    abbrev has_label : Place → Bool
    has_label a = has nat_eq set (label a)

    abbrev weight : Segment → ℤ
    weight l = across (has_label (left_side l)) (has_label (right_side l)) (pos 1)

    step_weight : (n j : ℕ) (s : Segment) → IsStep arcs n j s → weight (link_between s) ≡ across (left_in (forward n)) (left_in (backward n)) (pos 1)
    step_weight n j s h =
        go (is_before s.start s.stop) (face_left_of faces.places (forward n)) (face_left_of faces.places (backward n))
        (left_at S arr arcs long go_along faces label by n j s h) (right_at S arr arcs long go_along faces label by n j s h)
      where
        go : (b : Bool) (x y : ℕ) → label (left_of (record { link = cond b s (reversed s); forward = b })) ≡ x → label (left_of (opposite (record { link = cond b s (reversed s); forward = b }))) ≡ y →
            weight (cond b s (reversed s)) ≡ across (has nat_eq set x) (has nat_eq set y) (pos 1)
        go true x y e f = λ i. across (has nat_eq set (e i)) (has nat_eq set (f i)) (pos 1)
        go false x y e f = (λ i. across (has nat_eq set (f i)) (has nat_eq set (e i)) (pos 1)) ∙ across_turned (has nat_eq set x) (has nat_eq set y) (pos 1)

    arc_weight : (n : ℕ) → n < length arcs → total (λ (s : Segment). weight (link_between s)) (steps (arc_of arcs n)) ≡ across (left_in (forward n)) (left_in (backward n)) (links (forward n))
    arc_weight n below =
        let longer : 1 < length (arc_of arcs n) = long n [] below in
        let counted = steps_counted (arc_of arcs n) (omega arith) in
        let many : length (steps (arc_of arcs n)) ≡ length (arc_of arcs n) - 1 = omega arith in
        total_same (λ (s : Segment). weight (link_between s)) (λ (s : Segment). across (left_in (forward n)) (left_in (backward n)) (pos 1)) (steps (arc_of arcs n))
        (λ s (j, there, is). step_weight n j s (record { arc = below; there = there; is = is }))
        ∙ across_each (left_in (forward n)) (left_in (backward n)) (steps (arc_of arcs n))
        ∙ ap (λ (m : ℕ). across (left_in (forward n)) (left_in (backward n)) (pos m)) many

    count_is : pos (sets.links_of arcs (border arcs faces set)) ≡ total weight S
    count_is = faces_total ∙ sym (links_total S arcs distinct go_along weight added (λ n below. arc_weight n below ∙ sym (both_ways n)))

-- as many links are along the boundary of a set as in that of its region
pub links_are_told : (d : Drawing) (arcs : List Path) (faces : FaceTable) (label : Place → ℕ) → IsWalked d arcs faces label → (set : List ℕ) → IsStrictlyIncreasing set → (r : Region) → Follows (snapped d) arcs label set r →
    (A : Answers) → TellSides (plane_with d arcs) A r → sets.links_of arcs (border arcs faces set) ≡ length (boundary (plane_with d arcs) A r)
links_are_told d arcs faces label walked set up r follows A sides =
    let S : List Segment = links_of (snapped d) in
    same (sets.links_of arcs (border arcs faces set)) (length (boundary (plane_with d arcs) A r))
    (count_is arcs faces set up S (links_arranged d) (links_distinct d) walked.table.long walked.table.links label walked.labelled
    ∙ total_same (λ (l : Segment). across (has nat_eq set (label (left_side l))) (has nat_eq set (label (right_side l))) (pos 1)) (λ (l : Segment). across (A.left r l) (A.right r l) (pos 1)) S
    (λ l c. λ i. across (left_same d arcs faces label walked set r follows (A.left r) (A.right r) sides l c i) (right_same d arcs faces label walked set r follows (A.left r) (A.right r) sides l c i) (pos 1))
    ∙ sym (boundary_count (A.left r) (A.right r) S))
  where
    same : (m n : ℕ) → pos m ≡ pos n → m ≡ n
    same m n e = omega (arith, ints)
