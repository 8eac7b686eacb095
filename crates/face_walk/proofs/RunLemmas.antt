-- Elements in the order of a number: those of one number stand together, between two places.
use Rattle.std.proofs.Common.{◌≡◌, refl, sym, ap, ◌∙◌, arith, ℕ, suc, ◌+◌, ◌≤◌, Bool, true, false, cond, List, [], ◌∷◌, ◌++◌, All, length, get_or, take, drop, length-drop, append-nil}
use Rattle.std.specs.Prelude.{filter, nat_eq, nat_lt}
use Rattle.std.specs.List.Sorted.{IsNonDecreasingBy, IsPartitionedBy, IsPartitionPoint}
use Rattle.std.proofs.lemmas.Bool.{eqb-true, eq-eqb, ne_eqb, ltb-true, ltb-false}
use Rattle.std.proofs.lemmas.List.{get_or-take, get_or-drop, length-take-le, take-append-drop}
use Rattle.std.proofs.lemmas.List.Elements.{filter-append}

module _ {X : Type 0} where
  filter_none : (p : X → Bool) (xs : List X) → All (λ (x : X). p x ≡ false) xs → filter p xs ≡ []
  filter_none p [] h = refl
  filter_none p (x ∷ xs) h = (λ i. cond (h 0 x (omega arith) i) (x ∷ filter p xs) (filter p xs)) ∙ filter_none p xs (λ k d l. h (suc k) d (omega arith))

  filter_all : (p : X → Bool) (xs : List X) → All (λ (x : X). p x ≡ true) xs → filter p xs ≡ xs
  filter_all p [] h = refl
  filter_all p (x ∷ xs) h = (λ i. cond (h 0 x (omega arith) i) (x ∷ filter p xs) (filter p xs)) ∙ ap (λ (ys : List X). x ∷ ys) (filter_all p xs (λ k d l. h (suc k) d (omega arith)))

module _ {X : Type 0} (key : X → ℕ) (xs : List X) (n first : ℕ) (bound : first ≤ length xs)
    (at_first : IsPartitionPoint (λ (x : X). nat_lt (key x) n ≡ true) (λ (x : X). nat_lt (key x) n ≡ false) xs first) where
  abbrev test : X → Bool
  test x = nat_eq (key x) n

  pub rest_by_same : IsNonDecreasingBy key xs → IsPartitionedBy test (drop first xs)
  rest_by_same up i j d l m e =
      let size = length-drop first xs in
      let gi = ap key (get_or-drop first xs i d) in
      let gj = ap key (get_or-drop first xs j d) in
      let low = ltb-false (key (get_or xs (first + i) d)) n (at_first.1 (first + i) d (omega arith) (omega arith)) in
      let mid = up (first + i) (first + j) d (omega arith) (omega arith) in
      let top = eqb-true (key (get_or (drop first xs) j d)) n e in
      eq-eqb (key (get_or (drop first xs) i d)) n (omega arith)

  pub run_of_number : (count : ℕ) → count ≤ length (drop first xs) → IsPartitionPoint (λ (x : X). test x ≡ true) (λ (x : X). test x ≡ false) (drop first xs) count → take count (drop first xs) ≡ filter test xs
  run_of_number count count_bound at_count =
      sym (
      sym (ap (filter test) (take-append-drop first xs)) ∙ filter-append test (take first xs) (drop first xs) ∙ (λ i. filter_none test (take first xs) before i ++ filter test (drop first xs))
      ∙ sym (ap (filter test) (take-append-drop count (drop first xs))) ∙ filter-append test (take count (drop first xs)) (drop count (drop first xs))
      ∙ (λ i. filter_all test (take count (drop first xs)) inside i ++ filter_none test (drop count (drop first xs)) after i) ∙ append-nil (take count (drop first xs))
      )
    where
      before : All (λ (x : X). test x ≡ false) (take first xs)
      before k d l =
          let size = length-take-le first xs bound in
          let g = get_or-take first xs k d (omega arith) in
          let low = ltb-true (key (get_or xs k d)) n (at_first.0 k d (omega arith) (omega arith)) in
          (λ i. test (g i)) ∙ ne_eqb (key (get_or xs k d)) n (λ same. omega arith)

      inside : All (λ (x : X). test x ≡ true) (take count (drop first xs))
      inside k d l =
          let size = length-take-le count (drop first xs) count_bound in
          (λ i. test (get_or-take count (drop first xs) k d (omega arith) i)) ∙ at_count.0 k d (omega arith) (omega arith)

      after : All (λ (x : X). test x ≡ false) (drop count (drop first xs))
      after k d l =
          let size = length-drop count (drop first xs) in
          (λ i. test (get_or-drop count (drop first xs) k d i)) ∙ at_count.1 (count + k) d (omega arith) (omega arith)
