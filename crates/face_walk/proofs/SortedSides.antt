-- Sides in order by their faces, and then by their arcs: those of one face stand in the order of the arcs.
use Rattle.std.proofs.Common.{◌≡◌, inl, inr, refl, sym, ap, ◌∙◌, subst, arith, ℕ, zero, suc, ◌+◌, ◌*◌, ◌<◌, ◌≤◌, Bool, true, false, nat_eq, List, [], ◌∷◌, ◌++◌, All, AllPairs, Contains, get_or, map, Ordering}
use Rattle.std.specs.Prelude.{◌≢◌, filter}
use Rattle.std.specs.List.{IsDistinct}
use Rattle.std.specs.List.Sorted.{IsNonDecreasingBy, IsPermutation, IsSorted}
use Rattle.std.specs.Ordering.{ordering_then, nat_cmp, bool_cmp, is_lt}
use Rattle.std.specs.Cmp.{nat_cmp_is}
use Rattle.std.specs.declared.cmp.Ordering.TheVariants.{Less, Equal}
use Rattle.std.proofs.lemmas.Bool.{cases_lt, cases_order, eqb-true, eq-eqb, ne_eqb}
use Rattle.std.proofs.lemmas.List.{append_assoc, get_or-map, length-map, map-append}
use Rattle.std.proofs.lemmas.List.Elements.{All-nil, All-push, All-weaker, filter_passes}
use Rattle.std.proofs.lemmas.List.Kept.{AllPairs-filter, IsNonDecreasingBy-filter}
use Rattle.std.proofs.lemmas.List.Quantifiers.{all_pairs_push}
use Rattle.std.proofs.lemmas.List.Sorted.{All-permutation, Contains-permutation, IsNonDecreasingBy-from_all_adjacent, IsPermutation-map, IsPermutation-sym}
use Rattle.std.proofs.lemmas.Map.Keys.{IsDistinct-from_apart, IsDistinct-IsPermutation, apart_from_distinct}
use Rattle.std.proofs.lemmas.Nat.{mul-add-lt}
use Rattle.lists.proofs.Members.{Contains-cases, Contains-filter, Contains-head, Contains-later, Contains-nil, filter-Contains}
use Rattle.plane_model.specs.Arcs.{SignedArc, forward, backward}
use Rattle.face_walk.specs.Places.{place_of, signed_below}
use Rattle.face_walk.specs.Sides.{AreInOrder}
use Rattle.face_walk.specs.declared.numbering.FaceSide.{FaceSide}
use Rattle.face_walk.proofs.ListedLemmas.{side_with}

abbrev pub side_cmp : FaceSide → FaceSide → Ordering
side_cmp a b = ordering_then (nat_cmp a.face b.face) (ordering_then (nat_cmp a.arc.arc b.arc.arc) (bool_cmp a.arc.is_reversed b.arc.is_reversed))

abbrev pub number : FaceSide → ℕ
number s = place_of s.arc

-- the numbers rise
abbrev pub Rise : List FaceSide → Type 0
Rise sides = AllPairs (λ (s t : FaceSide). number s < number t) sides

-- ---- one number for a face and an arc

at_most : (a : SignedArc) → place_of a ≤ 2 * a.arc + 2
at_most a = go a.is_reversed a.arc
  where
    go : (r : Bool) (n : ℕ) → place_of (record { arc = n; is_reversed = r }) ≤ 2 * n + 2
    go true n = omega arith
    go false n = omega arith

at_least : (a : SignedArc) → 2 * a.arc + 1 ≤ place_of a
at_least a = go a.is_reversed a.arc
  where
    go : (r : Bool) (n : ℕ) → 2 * n + 1 ≤ place_of (record { arc = n; is_reversed = r })
    go true n = omega arith
    go false n = omega arith

not_less : {G : Type 0} → true ≡ false → G
not_less e = absurd cc

-- of two sides of one face the one that isn't after
on_one_face : (a b : SignedArc) → is_lt (ordering_then (nat_cmp b.arc a.arc) (bool_cmp b.is_reversed a.is_reversed)) ≡ false → place_of a ≤ place_of b
on_one_face a b e = elim (cases_order b.arc a.arc) [
  | inl same ↦ on_one_arc a.is_reversed b.is_reversed a.arc b.arc (sym same) ((λ i. is_lt (ordering_then (nat_cmp_is b.arc a.arc Equal same i) (bool_cmp b.is_reversed a.is_reversed))) ∙ e)
  | inr other ↦ elim other [
    | inl l ↦ not_less ((λ i. is_lt (ordering_then (nat_cmp_is b.arc a.arc Less l i) (bool_cmp b.is_reversed a.is_reversed))) ∙ e)
    | inr l ↦ (let h = at_most a in let k = at_least b in omega arith)
  ]
]
  where
    on_one_arc : (x y : Bool) (p q : ℕ) → p ≡ q → is_lt (bool_cmp y x) ≡ false → place_of (record { arc = p; is_reversed = x }) ≤ place_of (record { arc = q; is_reversed = y })
    on_one_arc false false p q s e = omega arith
    on_one_arc false true p q s e = omega arith
    on_one_arc true true p q s e = omega arith
    on_one_arc true false p q s e = not_less e

abbrev key : ℕ → FaceSide → ℕ
key m s = s.face * m + number s

key_up : (m : ℕ) (a b : FaceSide) → number a < m → is_lt (side_cmp b a) ≡ false → key m a ≤ key m b
key_up m a b within e =
    let rest = ordering_then (nat_cmp b.arc.arc a.arc.arc) (bool_cmp b.arc.is_reversed a.arc.is_reversed) in
    elim (cases_order b.face a.face) [
      | inl same ↦
          (let h = on_one_face a.arc b.arc ((λ i. is_lt (ordering_then (nat_cmp_is b.face a.face Equal same i) rest)) ∙ e) in
          let k : a.face * m ≡ b.face * m = ap (λ (f : ℕ). f * m) (sym same) in
          omega arith)
      | inr other ↦ elim other [
        | inl l ↦ not_less ((λ i. is_lt (ordering_then (nat_cmp_is b.face a.face Less l i) rest)) ∙ e)
        | inr l ↦ (let h = mul-add-lt a.face m (number a) b.face l within in omega arith)
      ]
    ]

pub faces_up : (sides : List FaceSide) → IsSorted side_cmp sides → AreInOrder sides
faces_up sides h = IsNonDecreasingBy-from_all_adjacent (λ (s : FaceSide). s.face) sides (λ k d l. go (get_or sides k d) (get_or sides (k + 1) d) (h k d (omega arith) l))
  where
    go : (a b : FaceSide) → is_lt (side_cmp b a) ≡ false → a.face ≤ b.face
    go a b e = elim (cases_lt b.face a.face) [
      | inl l ↦ not_less ((λ i. is_lt (ordering_then (nat_cmp_is b.face a.face Less l i) (ordering_then (nat_cmp b.arc.arc a.arc.arc) (bool_cmp b.arc.is_reversed a.arc.is_reversed)))) ∙ e)
      | inr l ↦ l
    ]

-- ---- lists whose numbers rise, and that have the same sides, are one

head_below : (x : FaceSide) (xs : List FaceSide) → Rise (x ∷ xs) → (y : FaceSide) → Contains xs y → number x < number y
head_below x xs h y (k, l, e) = subst (λ (s : FaceSide). number x < number s) e (h 0 (suc k) y (omega arith) (omega arith))

tail_rises : (x : FaceSide) (xs : List FaceSide) → Rise (x ∷ xs) → Rise xs
tail_rises x xs h i j d l m = h (suc i) (suc j) d (omega arith) (omega arith)

tail_has : (x : FaceSide) (xs ys : List FaceSide) → Rise (x ∷ xs) → ((z : FaceSide) → Contains (x ∷ xs) z → Contains (x ∷ ys) z) → (z : FaceSide) → Contains xs z → Contains ys z
tail_has x xs ys h to z c =
    let l = head_below x xs h z c in
    elim (Contains-cases x ys z (to z (Contains-later x xs z c))) [ inl e ↦ absurd (let same : number x ≡ number z = ap number e in omega arith) | inr d ↦ d ]

same_rising : (xs ys : List FaceSide) → Rise xs → Rise ys → ((z : FaceSide) → Contains xs z → Contains ys z) → ((z : FaceSide) → Contains ys z → Contains xs z) → xs ≡ ys
same_rising [] [] h k to from = refl
same_rising [] (y ∷ ys) h k to from = Contains-nil y (from y (Contains-head y ys))
same_rising (x ∷ xs) [] h k to from = Contains-nil x (to x (Contains-head x xs))
same_rising (x ∷ xs) (y ∷ ys) h k to from =
    let same : x ≡ y = elim (Contains-cases y ys x (to x (Contains-head x xs))) [
      | inl e ↦ sym e
      | inr c ↦ elim (Contains-cases x xs y (from y (Contains-head y ys))) [
        | inl e ↦ e
        | inr d ↦ (let l = head_below y ys k x c in let m = head_below x xs h y d in absurd (omega arith))
      ]
    ] in
    let k' : Rise (x ∷ ys) = subst (λ (s : FaceSide). Rise (s ∷ ys)) (sym same) k in
    let rest : xs ≡ ys = same_rising xs ys (tail_rises x xs h) (tail_rises y ys k)
    (tail_has x xs ys h (λ z c. subst (λ (s : FaceSide). Contains (s ∷ ys) z) (sym same) (to z c)))
    (tail_has x ys xs k' (λ z c. from z (subst (λ (s : FaceSide). Contains (s ∷ ys) z) same c))) in
    λ i. same i ∷ rest i

-- ---- the sides of one arc after another

pub record RiseBelow (n : ℕ) (sides : List FaceSide) : Type 0 where
  pub rise : Rise sides
  pub below : All (λ (s : FaceSide). number s < 2 * n + 1) sides

one_more : (m : ℕ) (sides : List FaceSide) (s : FaceSide) → Rise sides → All (λ (t : FaceSide). number t < m) sides → m ≤ number s → Rise (sides ++ s ∷ [])
one_more m sides s h below l = all_pairs_push (λ (s t : FaceSide). number s < number t) sides s h (λ j d w. (let b = below j d w in omega arith))

pub sides_rise : (places : List ℕ) (n : ℕ) → RiseBelow n (map (side_with places) (signed_below n))
sides_rise places zero = record { rise = λ i j d l m. absurd (omega arith); below = All-nil (λ (s : FaceSide). number s < 1) }
sides_rise places (suc n) =
    let before = sides_rise places n in
    let sides : List FaceSide = map (side_with places) (signed_below n) in
    let s : FaceSide = side_with places (forward n) in
    let t : FaceSide = side_with places (backward n) in
    let first : Rise (sides ++ s ∷ []) = one_more (2 * n + 1) sides s before.rise before.below (omega arith) in
    let first_below : All (λ (r : FaceSide). number r < 2 * n + 2) (sides ++ s ∷ []) =
    All-push (λ (r : FaceSide). number r < 2 * n + 2) sides s (All-weaker (λ (r : FaceSide). number r < 2 * n + 1) (λ (r : FaceSide). number r < 2 * n + 2) (λ r l. omega arith) sides before.below) (omega arith) in
    let second : Rise ((sides ++ s ∷ []) ++ t ∷ []) = one_more (2 * n + 2) (sides ++ s ∷ []) t first first_below (omega arith) in
    let second_below : All (λ (r : FaceSide). number r < 2 * suc n + 1) ((sides ++ s ∷ []) ++ t ∷ []) =
    All-push (λ (r : FaceSide). number r < 2 * suc n + 1) (sides ++ s ∷ []) t (All-weaker (λ (r : FaceSide). number r < 2 * n + 2) (λ (r : FaceSide). number r < 2 * suc n + 1) (λ r l. omega arith) (sides ++ s ∷ []) first_below) (omega arith) in
    let is : (sides ++ s ∷ []) ++ t ∷ [] ≡ map (side_with places) (signed_below (suc n)) = append_assoc sides (s ∷ []) (t ∷ []) ∙ sym (map-append (side_with places) (signed_below n) (forward n ∷ backward n ∷ [])) in
    record {
      rise = subst Rise is second;
      below = subst (λ (xs : List FaceSide). All (λ (r : FaceSide). number r < 2 * suc n + 1) xs) is second_below;
    }

-- ---- in another order

eqb_flips : (a b : ℕ) → nat_eq a b ≡ nat_eq b a
eqb_flips a b = elim (cases_order a b) [
  | inl e ↦ eq-eqb a b e ∙ sym (eq-eqb b a (sym e))
  | inr other ↦ elim other [
    | inl l ↦ ne_eqb a b (λ same. omega arith) ∙ sym (ne_eqb b a (λ same. omega arith))
    | inr l ↦ ne_eqb a b (λ same. omega arith) ∙ sym (ne_eqb b a (λ same. omega arith))
  ]
]

module _ (n : ℕ) (old new : List FaceSide) (rising : RiseBelow n old) (moved : IsPermutation old new) (sorted : IsSorted side_cmp new) where
  apart : AllPairs (λ (s t : FaceSide). number s ≢ number t) new
  apart i j d l m same =
      let distinct : IsDistinct nat_eq (map number old) = IsDistinct-from_apart nat_eq (map number old)
      (λ a b e p q.
      (let size = length-map old number in
      let x = get_or-map number old a d e (omega arith) in
      let y = get_or-map number old b d e (omega arith) in
      let h = rising.rise a b d p (omega arith) in
      ne_eqb (get_or (map number old) a e) (get_or (map number old) b e) (λ g. omega arith))) in
      let there : IsDistinct nat_eq (map number new) = IsDistinct-IsPermutation nat_eq eqb_flips (map number old) (map number new) (IsPermutation-map number old new moved) distinct in
      let size = length-map new number in
      let x = get_or-map number new i d 0 (omega arith) in
      let y = get_or-map number new j d 0 (omega arith) in
      let e : nat_eq (get_or (map number new) i 0) (get_or (map number new) j 0) ≡ false = apart_from_distinct nat_eq (map number new) i j 0 there l (omega arith) in
      not_less (sym (eq-eqb (get_or (map number new) i 0) (get_or (map number new) j 0) (x ∙ same ∙ sym y)) ∙ e)

  keys_up : IsNonDecreasingBy (key (2 * n + 1)) new
  keys_up = IsNonDecreasingBy-from_all_adjacent (key (2 * n + 1)) new
      (λ k d l. key_up (2 * n + 1) (get_or new k d) (get_or new (k + 1) d) (All-permutation (λ (s : FaceSide). number s < 2 * n + 1) old new moved rising.below k d (omega arith)) (sorted k d (omega arith) l))

  module _ (f : ℕ) where
    abbrev test : FaceSide → Bool
    test s = nat_eq s.face f

    new_rise : Rise (filter test new)
    new_rise i j d l m =
        let up = IsNonDecreasingBy-filter (key (2 * n + 1)) test new keys_up i j d (omega arith) m in
        let ne = AllPairs-filter (λ (s t : FaceSide). number s ≢ number t) test new apart i j d l m in
        let fi = eqb-true (get_or (filter test new) i d).face f (filter_passes test new i d (omega arith)) in
        let fj = eqb-true (get_or (filter test new) j d).face f (filter_passes test new j d m) in
        let k : (get_or (filter test new) i d).face * (2 * n + 1) ≡ (get_or (filter test new) j d).face * (2 * n + 1) = ap (λ (g : ℕ). g * (2 * n + 1)) (fi ∙ sym fj) in
        omega arith

    old_rise : Rise (filter test old)
    old_rise = AllPairs-filter (λ (s t : FaceSide). number s < number t) test old rising.rise

    pub sides_of_one : filter test new ≡ filter test old
    sides_of_one = same_rising (filter test new) (filter test old) new_rise old_rise
        (λ z c. (let h = filter-Contains test new z c in Contains-filter test old z (Contains-permutation new old z (IsPermutation-sym old new moved) h.0) h.1))
        (λ z c. (let h = filter-Contains test old z c in Contains-filter test new z (Contains-permutation old new z moved h.0) h.1))
