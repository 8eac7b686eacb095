-- Ascending lists of numbers: what a binary search tells of them, and what is put in its place.
use Rattle.std.proofs.Common.{◌≡◌, refl, sym, ap, ◌∙◌, subst, arith, ℕ, zero, suc, ◌+◌, ◌-◌, ◌<◌, ◌≤◌, Bool, true, false, List, [], ◌∷◌, ◌++◌, length, get_or, nat_eq, nat_lt, Some, Ok, Err, Contains, All, inl, inr, ◌&&◌, filter, cond}
use Rattle.std.specs.Prelude.{if◌then◌else◌, slice_get}
use Rattle.std.specs.List.{insert, dedup}
use Rattle.std.specs.List.Sorted.{IsStrictlyIncreasing, IsBinarySearchResult, IsPermutation, IsSorted}
use Rattle.std.specs.Ordering.{nat_cmp}
use Rattle.std.specs.Cmp.Lexicographic.{pointwise, bytes_decides}
use Rattle.std.proofs.lemmas.Bool.{cases_lt, ltb-true, ltb-false, lt-ltb, le-ltb, eq-eqb, ne_eqb}
use Rattle.std.proofs.lemmas.List.{get_or_append_left, get_or_default, get_or_push}
use Rattle.std.proofs.lemmas.Option.{get_or_from_slice_get}
use Rattle.std.proofs.lemmas.List.Folds.{list_any_at, list_any_none}
use Rattle.std.proofs.lemmas.List.Elements.{All-from_get_or, All-contains, Contains-get_or}
use Rattle.std.proofs.lemmas.List.Sorted.{searched, IsPermutation-sym, Contains-permutation}
use Rattle.std.proofs.lemmas.List.Kept.{AllPairs-from_increasing, Contains-dedup_nat, Contains-from_dedup}
use Rattle.std.proofs.lemmas.Map.Keys.{sorted_from_strictly_increasing, non_decreasing_from_sorted, IsStrictlyIncreasing-dedup}
use Rattle.lists.specs.Lists.{has, put_in_order, ascending, same_list}
use Rattle.lists.proofs.Ascending.{IsStrictOrder, IsAscending, put-IsAscending, ascending-IsAscending, ascending-Contains, Contains-ascending, one_ascending, pairs_of_ascending, ascending_of_pairs}
use Rattle.lists.proofs.Members.{Contains-head, Contains-later}

pub nat_order : IsStrictOrder nat_lt
nat_order = record {
  trans = λ x y z e f. lt-ltb x z (let h = ltb-true x y e in let k = ltb-true y z f in omega arith);
  total = λ x y e f. let h = ltb-false x y e in let k = ltb-false y x f in omega arith;
  irreflexive = λ x e. let h = ltb-true x x e in omega arith;
}

pub to_ascending : (xs : List ℕ) → IsStrictlyIncreasing xs → IsAscending nat_lt xs
to_ascending xs up = ascending_of_pairs nat_lt (λ x y. x < y) xs (AllPairs-from_increasing xs up) (λ x y _ _ h. lt-ltb x y h)

pub from_ascending : (xs : List ℕ) → IsAscending nat_lt xs → IsStrictlyIncreasing xs
from_ascending xs h = λ k within. pairs_of_ascending nat_lt (λ x y. x < y) xs h (λ x y _ _ e. ltb-true x y e) k (k + 1) 0 (omega arith) within

rises : (xs : List ℕ) → IsStrictlyIncreasing xs → (i j : ℕ) → i ≤ j → j < length xs → get_or xs i 0 ≤ get_or xs j 0
rises xs up i j h k = non_decreasing_from_sorted xs (sorted_from_strictly_increasing xs up) i j 0 h k

-- a list that a fact fits place by place, and one more element
pub pushed : {A : Type 0} (xs : List A) (x d : A) (n : ℕ) (Q : ℕ → A → Type 0) → length xs ≡ n → ((j : ℕ) → j < n → Q j (get_or xs j d)) → Q n x → (j : ℕ) → j < n + 1 → Q j (get_or (xs ++ x ∷ []) j d)
pushed {A} xs x d n Q e h one j l = elim (cases_lt j n) [
  | inl less ↦ subst (Q j) (sym (get_or_append_left xs (x ∷ []) d j (omega arith))) (h j less)
  | inr more ↦
      let same : n ≡ j = omega arith in
      subst (λ (i : ℕ). Q i (get_or (xs ++ x ∷ []) i d)) same (subst (Q n) (sym (get_or_push xs x d n e)) one)
]

-- ---- what a search tells

has_at : (xs : List ℕ) (x i : ℕ) → i < length xs → get_or xs i 0 ≡ x → has nat_eq xs x ≡ true
has_at xs x i h e = list_any_at (nat_eq x) xs i 0 h (eq-eqb x (get_or xs i 0) (sym e))

has_not : (xs : List ℕ) (x i : ℕ) → ((k : ℕ) → k < i → get_or xs k 0 < x) → ((k : ℕ) → i ≤ k → k < length xs → x < get_or xs k 0) → has nat_eq xs x ≡ false
has_not xs x i below above = list_any_none (nat_eq x) xs (All-from_get_or (λ y. nat_eq x y ≡ false) xs 0 (λ k h. ne_eqb x (get_or xs k 0) (λ e. elim (cases_lt k i) [
  | inl l ↦ let m = below k l in omega arith
  | inr l ↦ let m = above k l h in omega arith
])))

pub search_found : (xs : List ℕ) (x i : ℕ) → IsStrictlyIncreasing xs → IsBinarySearchResult (λ y. nat_cmp y x) xs (Ok i) → has nat_eq xs x ≡ true
search_found xs x i up r = let s = searched xs x (Ok i) r (rises xs up) in has_at xs x i s.0 s.1

pub search_misses : (xs : List ℕ) (x i : ℕ) → IsStrictlyIncreasing xs → IsBinarySearchResult (λ y. nat_cmp y x) xs (Err i) → has nat_eq xs x ≡ false
search_misses xs x i up r = let s = searched xs x (Err i) r (rises xs up) in has_not xs x i s.1 s.2

pub search_place : (xs : List ℕ) (x i : ℕ) → IsStrictlyIncreasing xs → IsBinarySearchResult (λ y. nat_cmp y x) xs (Ok i) → get_or xs i 0 ≡ x
search_place xs x i up r = (searched xs x (Ok i) r (rises xs up)).1

-- ---- what is put in its place

abbrev placed : ℕ → ℕ → List ℕ → Bool → Bool → List ℕ
placed x y ys one two = if one then x ∷ y ∷ ys else if two then y ∷ put_in_order nat_lt x ys else y ∷ ys

put_new : (xs : List ℕ) (i x : ℕ) → i ≤ length xs → ((k : ℕ) → k < i → get_or xs k 0 < x) → ((k : ℕ) → i ≤ k → k < length xs → x < get_or xs k 0) → insert xs i x ≡ put_in_order nat_lt x xs
put_new [] zero x h below above = refl
put_new [] (suc i) x h below above = absurd (omega arith)
put_new (y ∷ ys) zero x h below above = sym (ap (λ b. placed x y ys b (nat_lt y x)) (lt-ltb x y (above 0 (omega arith) (omega arith))))
put_new (y ∷ ys) (suc i) x h below above =
    let less : y < x = below 0 (omega arith) in
    let e : nat_lt x y ≡ false = le-ltb x y (omega arith) in
    let f : nat_lt y x ≡ true = lt-ltb y x less in
    let more : insert ys i x ≡ put_in_order nat_lt x ys = put_new ys i x (omega arith) (λ k p. below (suc k) (omega arith)) (λ k p q. above (suc k) (omega arith) (omega arith)) in
    ap (λ zs. y ∷ zs) more ∙ sym (λ j. placed x y ys (e j) (f j))

put_there : (xs : List ℕ) (i x : ℕ) → IsAscending nat_lt xs → i < length xs → get_or xs i 0 ≡ x → put_in_order nat_lt x xs ≡ xs
put_there [] i x up h same = absurd (omega arith)
put_there (y ∷ ys) zero x up h same =
    let e : nat_lt x y ≡ false = le-ltb x y (omega arith) in
    let f : nat_lt y x ≡ false = le-ltb y x (omega arith) in
    λ j. placed x y ys (e j) (f j)
put_there (y ∷ ys) (suc i) x up h same =
    let within : i < length ys = omega arith in
    let f : nat_lt y x ≡ true = up.0 x (subst (λ (z : ℕ). Contains ys z) same (Contains-get_or ys i 0 within)) in
    let less = ltb-true y x f in
    let e : nat_lt x y ≡ false = le-ltb x y (omega arith) in
    (λ j. placed x y ys (e j) (f j)) ∙ ap (λ zs. y ∷ zs) (put_there ys i x up.1 within same)

pub put_found : (xs : List ℕ) (x i : ℕ) → IsStrictlyIncreasing xs → IsBinarySearchResult (λ y. nat_cmp y x) xs (Ok i) → xs ≡ put_in_order nat_lt x xs
put_found xs x i up r = let s = searched xs x (Ok i) r (rises xs up) in sym (put_there xs i x (to_ascending xs up) s.0 s.1)

pub put_missed : (xs : List ℕ) (x i : ℕ) → IsStrictlyIncreasing xs → IsBinarySearchResult (λ y. nat_cmp y x) xs (Err i) → insert xs i x ≡ put_in_order nat_lt x xs
put_missed xs x i up r = let s = searched xs x (Err i) r (rises xs up) in put_new xs i x s.0 s.1 s.2

pub put_past : (xs : List ℕ) (x : ℕ) → All (λ (y : ℕ). y < x) xs → xs ++ x ∷ [] ≡ put_in_order nat_lt x xs
put_past [] x below = refl
put_past (y ∷ ys) x below =
    let less : y < x = below 0 0 (omega arith) in
    let e : nat_lt x y ≡ false = le-ltb x y (omega arith) in
    let f : nat_lt y x ≡ true = lt-ltb y x less in
    let more : ys ++ x ∷ [] ≡ put_in_order nat_lt x ys = put_past ys x (λ i d l. below (suc i) d (omega arith)) in
    ap (λ zs. y ∷ zs) more ∙ sym (λ j. placed x y ys (e j) (f j))

-- all are below what the last is below
pub below_last : (xs : List ℕ) (last x : ℕ) → IsStrictlyIncreasing xs → slice_get xs (length xs - 1) ≡ Some last → last < x → All (λ (y : ℕ). y < x) xs
below_last xs last x up found less i d l =
    let first = get_or_default xs i d 0 l in
    let value = get_or_from_slice_get xs (length xs - 1) last 0 found in
    let far = rises xs up i (length xs - 1) (omega arith) (omega arith) in
    omega arith

pub put_IsStrictlyIncreasing : (x : ℕ) (xs : List ℕ) → IsStrictlyIncreasing xs → IsStrictlyIncreasing (put_in_order nat_lt x xs)
put_IsStrictlyIncreasing x xs up = from_ascending (put_in_order nat_lt x xs) (put-IsAscending nat_lt nat_order x xs (to_ascending xs up))

-- ---- sorted, each once

pub sorted_once : (joined sorted : List ℕ) → IsPermutation joined sorted → IsSorted nat_cmp sorted → dedup nat_eq sorted ≡ ascending nat_lt joined
sorted_once joined sorted moved up = one_ascending nat_lt nat_order (dedup nat_eq sorted) (ascending nat_lt joined)
    (to_ascending (dedup nat_eq sorted) (IsStrictlyIncreasing-dedup sorted up))
    (ascending-IsAscending nat_lt nat_order joined)
    (λ z c. Contains-ascending nat_lt nat_order joined z (Contains-permutation sorted joined z (IsPermutation-sym joined sorted moved) (Contains-from_dedup nat_eq sorted z c)))
    (λ z c. Contains-dedup_nat sorted z (Contains-permutation joined sorted z moved (ascending-Contains nat_lt nat_order joined z c)))

-- ---- what holds of all

pub All-ascending : (P : ℕ → Type 0) (xs : List ℕ) → All P xs → All P (ascending nat_lt xs)
All-ascending P xs h = All-from_get_or P (ascending nat_lt xs) 0 (λ k within.
    All-contains P xs (get_or (ascending nat_lt xs) k 0) h (ascending-Contains nat_lt nat_order xs (get_or (ascending nat_lt xs) k 0) (Contains-get_or (ascending nat_lt xs) k 0 within)))

-- ---- the same list

pub same_pointwise : (xs ys : List ℕ) → same_list nat_eq xs ys ≡ pointwise nat_eq xs ys
same_pointwise [] [] = refl
same_pointwise [] (y ∷ ys) = refl
same_pointwise (x ∷ xs) [] = refl
same_pointwise (x ∷ xs) (y ∷ ys) = ap (λ (b : Bool). nat_eq x y && b) (same_pointwise xs ys)

pub same_from_test : (xs ys : List ℕ) → same_list nat_eq xs ys ≡ true → xs ≡ ys
same_from_test xs ys e = (bytes_decides xs ys).0 (sym (same_pointwise xs ys) ∙ e)

pub test_from_same : (xs ys : List ℕ) → xs ≡ ys → same_list nat_eq xs ys ≡ true
test_from_same xs ys e = same_pointwise xs ys ∙ (bytes_decides xs ys).1 e

-- ---- lists in general

pub first_of : (xs : List ℕ) → (xs ≡ [] → ⊥) → (n : ℕ) × Contains xs n
first_of [] some = absurd (some refl)
first_of (x ∷ xs) some = (x, Contains-head x xs)

pub filter_same : {X : Type 0} (p q : X → Bool) (xs : List X) → ((x : X) → Contains xs x → p x ≡ q x) → filter p xs ≡ filter q xs
filter_same p q [] h = refl
filter_same p q (x ∷ xs) h = λ i. cond (h x (Contains-head x xs) i) (x ∷ filter_same p q xs (λ y c. h y (Contains-later x xs y c)) i) (filter_same p q xs (λ y c. h y (Contains-later x xs y c)) i)
