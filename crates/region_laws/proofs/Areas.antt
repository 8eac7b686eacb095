-- The area of a set of faces is that within the boundary of its region: arcs with faces of the set on both sides
-- cancel.
use Rattle.std.proofs.Common.{◌≡◌, refl, sym, ap, ◌∙◌, arith, ℕ, zero, suc, ◌+◌, ◌<◌, ◌≤◌, ℤ, pos, ◌+ℤ◌, ◌-ℤ◌, ◌*ℤ◌, Bool, true, false, cond, List, [], ◌∷◌, ◌++◌, All, Contains, length, get_or, nat_eq, take}
use Rattle.std.specs.List.{cons_option, flat_map}
use Rattle.std.specs.List.Sorted.{IsStrictlyIncreasing}
use Rattle.std.proofs.lemmas.Grind.{flat_map-append}
use Rattle.std.proofs.lemmas.Int.{ints}
use Rattle.std.proofs.lemmas.List.{append-nil, take_all, take_more}
use Rattle.std.proofs.lemmas.List.Elements.{All-contains}
use Rattle.std.proofs.lemmas.List.FromFn.{get_or-map-range_with_len}
use Rattle.lists.specs.Lists.{has}
use Rattle.plane_algebra.proofs.Ring.{ring, ◌⊟◌, ◌⊠◌, num, ◌≐◌}
use Rattle.plane_model.specs.Points.{Segment, Path, is_before, link_between, reversed}
use Rattle.plane_model.specs.Drawing.{steps}
use Rattle.plane_model.specs.Arcs.{SignedArc, forward, backward, points_of}
use Rattle.plane_model.specs.Arrangement.{IsArrangement, IsDistinct}
use Rattle.plane_model.specs.Boundary.{boundary_by, boundary_step, twice_area}
use Rattle.plane_model.specs.Snapped.{links_of, snapped}
use Rattle.plane_faces.specs.Around.{opposite}
use Rattle.plane_faces.specs.Places.{Place, left_of, left_side, right_side}
use Rattle.arc_table.specs.Along.{GoAlong, links_of_arcs}
use Rattle.face_walk.specs.Areas.{area_along, area_within}
use Rattle.face_walk.specs.Places.{FaceTable, IsBuiltOf, arcs_with_left, face_left_of, has_left, signed_below}
use Rattle.face_walk.proofs.AreaLemmas.{area_of_signed}
use Rattle.face_laws.specs.Faces.{IsFaceOfPlace}
use Rattle.face_laws.proofs.StepLemmas.{IsStep, arc_of}
use Rattle.face_sets.specs.Sets.{IsInnerFace, IsSetOf}
use Rattle.face_sets.proofs.SetLemmas.{to_ascending}
use Rattle.part_laws.proofs.LinkLemmas.{left_at, right_at}
use Rattle.region_ops.specs.Cleaned.{area_of}
use Rattle.region_laws.specs.Followed.{AreasAreThoseOfRegions}
use Rattle.region_laws.proofs.SideTests.{left_same, right_same}
use Rattle.region_laws.proofs.Totals.{distinct_from_pairs, total, total_append, total_filter, total_flat_map, total_map, total_of_same, total_once, total_same, total_swap}
use Rattle.region_laws.proofs.Walked.{links_arranged, links_distinct}

-- ---- what a step adds, by the sides that belong to the region

abbrev cross_of : Segment → ℤ
cross_of s = s.start.x *ℤ s.stop.y -ℤ s.start.y *ℤ s.stop.x

abbrev weighed : Bool → Bool → ℤ → ℤ
weighed true true x = pos 0
weighed true false x = x
weighed false true x = pos 0 -ℤ x
weighed false false x = pos 0

weighed_sum : (a b : Bool) (x y : ℤ) → weighed a b (x +ℤ y) ≡ weighed a b x +ℤ weighed a b y
weighed_sum true true x y = omega (arith, ints)
weighed_sum true false x y = refl
weighed_sum false true x y = omega (arith, ints)
weighed_sum false false x y = omega (arith, ints)

weighed_zero : (a b : Bool) → weighed a b (pos 0) ≡ pos 0
weighed_zero true true = refl
weighed_zero true false = refl
weighed_zero false true = omega (arith, ints)
weighed_zero false false = refl

weighed_back : (a b : Bool) (x y : ℤ) → y ≡ pos 0 -ℤ x → weighed b a y ≡ weighed a b x
weighed_back true true x y e = refl
weighed_back true false x y e = omega (arith, ints)
weighed_back false true x y e = e
weighed_back false false x y e = refl

cross_back : (s : Segment) → cross_of (reversed s) ≡ pos 0 -ℤ cross_of s
cross_back s = go s.start.x s.start.y s.stop.x s.stop.y
  where
    go : (a b c d : ℤ) → c *ℤ b -ℤ d *ℤ a ≡ pos 0 -ℤ (a *ℤ d -ℤ b *ℤ c)
    go = ring 4 (λ a b c d. c ⊠ b ⊟ d ⊠ a ≐ num (pos 0) ⊟ (a ⊠ d ⊟ b ⊠ c)) tt

area_total : (xs : List Segment) → twice_area xs ≡ total cross_of xs
area_total [] = refl
area_total (s ∷ xs) = ap (λ (t : ℤ). cross_of s +ℤ t) (area_total xs)

weighed_total : (a b : Bool) (xs : List Segment) → total (λ (s : Segment). weighed a b (cross_of s)) xs ≡ weighed a b (twice_area xs)
weighed_total a b [] = sym (weighed_zero a b)
weighed_total a b (s ∷ xs) = ap (λ (t : ℤ). weighed a b (cross_of s) +ℤ t) (weighed_total a b xs) ∙ sym (weighed_sum a b (cross_of s) (twice_area xs))

-- within a boundary
boundary_area : (left right : Segment → Bool) (S : List Segment) → twice_area (boundary_by left right S) ≡ total (λ (l : Segment). weighed (left l) (right l) (cross_of l)) S
boundary_area left right [] = refl
boundary_area left right (l ∷ S) = go (left l) (right l) ∙ ap (λ (t : ℤ). weighed (left l) (right l) (cross_of l) +ℤ t) (boundary_area left right S)
  where
    none : (t : ℤ) → t ≡ pos 0 +ℤ t
    none t = omega (arith, ints)

    go : (a b : Bool) → twice_area (cons_option (boundary_step a b l) (boundary_by left right S)) ≡ weighed a b (cross_of l) +ℤ twice_area (boundary_by left right S)
    go true true = none (twice_area (boundary_by left right S))
    go true false = refl
    go false true = ap (λ (t : ℤ). t +ℤ twice_area (boundary_by left right S)) (cross_back l)
    go false false = none (twice_area (boundary_by left right S))

-- ---- by arcs

-- what links weigh together is what signed arcs add, where it is so of the steps of each arc
module _ (S : List Segment) (arcs : List Path) (distinct : IsDistinct S) (go_along : GoAlong S arcs) (weight : Segment → ℤ) (added : SignedArc → ℤ)
    (by_arcs : (n : ℕ) → n < length arcs → total (λ (s : Segment). weight (link_between s)) (steps (arc_of arcs n)) ≡ added (forward n) +ℤ (added (backward n) +ℤ pos 0)) where
  arcs_total : (n : ℕ) → n ≤ length arcs → total (λ (s : Segment). weight (link_between s)) (flat_map steps (take n arcs)) ≡ total added (signed_below n)
  arcs_total zero within = refl
  arcs_total (suc n) within =
      let below : n < length arcs = omega arith in
      let next : n + 1 ≡ suc n = omega arith in
      ap (λ (k : ℕ). total (λ (s : Segment). weight (link_between s)) (flat_map steps (take k arcs))) (sym next)
      ∙ ap (λ (xs : List Path). total (λ (s : Segment). weight (link_between s)) (flat_map steps xs)) (take_more arcs n [] below)
      ∙ ap (total (λ (s : Segment). weight (link_between s))) (flat_map-append steps (take n arcs) (arc_of arcs n ∷ []) ∙ ap (λ (xs : List Segment). flat_map steps (take n arcs) ++ xs) (append-nil (steps (arc_of arcs n))))
      ∙ total_append (λ (s : Segment). weight (link_between s)) (flat_map steps (take n arcs)) (steps (arc_of arcs n))
      ∙ (λ i. arcs_total n (omega arith) i +ℤ by_arcs n below i)
      ∙ sym (total_append added (signed_below n) (forward n ∷ backward n ∷ []))

  pub links_total : total weight S ≡ total added (signed_below (length arcs))
  links_total =
      total_of_same weight S (links_of_arcs arcs) distinct (distinct_from_pairs (links_of_arcs arcs) go_along.once) go_along.all (λ z c. All-contains (Contains S) (links_of_arcs arcs) z go_along.others c)
      ∙ total_map weight link_between (flat_map steps arcs)
      ∙ ap (λ (xs : List Path). total (λ (s : Segment). weight (link_between s)) (flat_map steps xs)) (sym (take_all (length arcs) arcs (omega arith)))
      ∙ arcs_total (length arcs) (omega arith)

-- ---- by faces

module _ (arcs : List Path) (faces : FaceTable) (built : IsBuiltOf arcs faces) (set : List ℕ) (up : IsStrictlyIncreasing set) (inner : IsSetOf faces set) where
  abbrev along : SignedArc → ℤ
  along a = area_along (points_of arcs a)

  abbrev left_in : SignedArc → Bool
  left_in a = has nat_eq set (face_left_of faces.places a)

  -- what a signed arc adds: its area, if the face on its left is in the set
  abbrev added : SignedArc → ℤ
  added a = cond (left_in a) (along a) (pos 0)

  within_total : (xs : List SignedArc) → area_within arcs xs ≡ total along xs
  within_total xs =
      area_total (flat_map (λ (a : SignedArc). steps (points_of arcs a)) xs)
      ∙ total_flat_map cross_of (λ (a : SignedArc). steps (points_of arcs a)) xs
      ∙ total_same (λ (a : SignedArc). total cross_of (steps (points_of arcs a))) along xs (λ a c. sym (area_total (steps (points_of arcs a))))

  face_area : (k : ℕ) → k < faces.count → get_or faces.areas k (pos 0) ≡ total (λ (a : SignedArc). cond (nat_eq (face_left_of faces.places a) k) (along a) (pos 0)) (signed_below (length arcs))
  face_area k below =
      let size : 0 + k ≡ k = omega arith in
      ap (λ (xs : List ℤ). get_or xs k (pos 0)) built.areas_summed
      ∙ get_or-map-range_with_len (λ (f : ℕ). area_within arcs (arcs_with_left faces.places (length arcs) f)) 0 faces.count k k (pos 0) below size
      ∙ within_total (arcs_with_left faces.places (length arcs) k)
      ∙ total_filter along (has_left faces.places k) (signed_below (length arcs))

  listed : (xs : List ℕ) → area_of faces.areas xs ≡ total (λ (k : ℕ). get_or faces.areas k (pos 0)) xs
  listed [] = refl
  listed (k ∷ xs) = ap (λ (t : ℤ). get_or faces.areas k (pos 0) +ℤ t) (listed xs)

  faces_total : area_of faces.areas set ≡ total added (signed_below (length arcs))
  faces_total =
      listed set
      ∙ total_same (λ (k : ℕ). get_or faces.areas k (pos 0)) (λ (k : ℕ). total (λ (a : SignedArc). cond (nat_eq (face_left_of faces.places a) k) (along a) (pos 0)) (signed_below (length arcs))) set
      (λ k c. face_area k (All-contains (IsInnerFace faces) set k inner c).there)
      ∙ total_swap (λ (k : ℕ) (a : SignedArc). cond (nat_eq (face_left_of faces.places a) k) (along a) (pos 0)) set (signed_below (length arcs))
      ∙ total_same (λ (a : SignedArc). total (λ (k : ℕ). cond (nat_eq (face_left_of faces.places a) k) (along a) (pos 0)) set) added (signed_below (length arcs))
      (λ a c. total_once (face_left_of faces.places a) (along a) set (to_ascending set up))

  -- an arc adds its area by the faces on both of its sides
  both_ways : (n : ℕ) → added (forward n) +ℤ (added (backward n) +ℤ pos 0) ≡ weighed (left_in (forward n)) (left_in (backward n)) (area_along (arc_of arcs n))
  both_ways n =
      go (left_in (forward n)) (left_in (backward n)) (along (forward n)) (along (backward n)) (area_along (arc_of arcs n))
      (area_of_signed arcs (forward n) (arc_of arcs n) refl) (area_of_signed arcs (backward n) (arc_of arcs n) refl)
    where
      go : (a b : Bool) (x y t : ℤ) → x ≡ t → y ≡ pos 0 -ℤ t → cond a x (pos 0) +ℤ (cond b y (pos 0) +ℤ pos 0) ≡ weighed a b t
      go true true x y t e f = omega (arith, ints)
      go true false x y t e f = omega (arith, ints)
      go false true x y t e f = omega (arith, ints)
      go false false x y t e f = refl

  -- ---- by links

  module _ (S : List Segment) (arr : IsArrangement S) (distinct : IsDistinct S) (long : All (λ arc. 1 < length arc) arcs) (go_along : GoAlong S arcs) (label : Place → ℕ) (by : IsFaceOfPlace arcs faces label) where
    abbrev has_label : Place → Bool
    has_label a = has nat_eq set (label a)

    abbrev weight : Segment → ℤ
    weight l = weighed (has_label (left_side l)) (has_label (right_side l)) (cross_of l)

    step_weight : (n j : ℕ) (s : Segment) → IsStep arcs n j s → weight (link_between s) ≡ weighed (left_in (forward n)) (left_in (backward n)) (cross_of s)
    step_weight n j s h =
        go (is_before s.start s.stop) (face_left_of faces.places (forward n)) (face_left_of faces.places (backward n))
        (left_at S arr arcs long go_along faces label by n j s h) (right_at S arr arcs long go_along faces label by n j s h)
      where
        go : (b : Bool) (x y : ℕ) → label (left_of (record { link = cond b s (reversed s); forward = b })) ≡ x → label (left_of (opposite (record { link = cond b s (reversed s); forward = b }))) ≡ y →
            weight (cond b s (reversed s)) ≡ weighed (has nat_eq set x) (has nat_eq set y) (cross_of s)
        go true x y e f = λ i. weighed (has nat_eq set (e i)) (has nat_eq set (f i)) (cross_of s)
        go false x y e f =
            (λ i. weighed (has nat_eq set (f i)) (has nat_eq set (e i)) (cross_of (reversed s)))
            ∙ weighed_back (has nat_eq set x) (has nat_eq set y) (cross_of s) (cross_of (reversed s)) (cross_back s)

    arc_weight : (n : ℕ) → n < length arcs → total (λ (s : Segment). weight (link_between s)) (steps (arc_of arcs n)) ≡ weighed (left_in (forward n)) (left_in (backward n)) (area_along (arc_of arcs n))
    arc_weight n below =
        total_same (λ (s : Segment). weight (link_between s)) (λ (s : Segment). weighed (left_in (forward n)) (left_in (backward n)) (cross_of s)) (steps (arc_of arcs n))
        (λ s (j, there, is). step_weight n j s (record { arc = below; there = there; is = is }))
        ∙ weighed_total (left_in (forward n)) (left_in (backward n)) (steps (arc_of arcs n))

    area_is : area_of faces.areas set ≡ total weight S
    area_is = faces_total ∙ sym (links_total S arcs distinct go_along weight added (λ n below. arc_weight n below ∙ sym (both_ways n)))

pub areas_are_those_of_regions : AreasAreThoseOfRegions
areas_are_those_of_regions d arcs faces label walked set up inner r follows left right sides =
    let S : List Segment = links_of (snapped d) in
    area_is arcs faces walked.built set up inner S (links_arranged d) (links_distinct d) walked.table.long walked.table.links label walked.labelled
    ∙ total_same (λ (l : Segment). weighed (has nat_eq set (label (left_side l))) (has nat_eq set (label (right_side l))) (cross_of l)) (λ (l : Segment). weighed (left l) (right l) (cross_of l)) S
    (λ l c. λ i. weighed (left_same d arcs faces label walked set r follows left right sides l c i) (right_same d arcs faces label walked set r follows left right sides l c i) (cross_of l))
    ∙ sym (boundary_area left right S)
