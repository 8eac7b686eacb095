-- Numbers that come up in order, and what is made of them once.
use Rattle.std.proofs.Common.{◌≡◌, ◌⊎◌, inl, inr, refl, sym, ap, ◌∙◌, subst, arith, ℕ, suc, ◌+◌, ◌-◌, ◌<◌, ◌≤◌, Bool, true, false, cond, not, ◌&&◌, nat_eq, nat_lt, List, [], ◌∷◌, map, length, filter, get_or, All}
use Rattle.std.specs.List.{range_with_len}
use Rattle.std.proofs.lemmas.Bool.{cases_eq, cases_lt, eq-eqb, le-ltb, lt-ltb, ne_eqb}
use Rattle.std.proofs.lemmas.List.Elements.{All-cons, All-filter, All-head, All-nil, All-tail}
use Rattle.lists.specs.Lists.{each_once}

-- ---- filters

filter_both : {A : Type 0} (p q r : A → Bool) → ((x : A) → (q x && p x) ≡ r x) → (xs : List A) → filter p (filter q xs) ≡ filter r xs
filter_both p q r same [] = refl
filter_both p q r same (x ∷ xs) = go (q x) (p x) (r x) refl refl refl (filter_both p q r same xs)
  where
    go : (b c e : Bool) → q x ≡ b → p x ≡ c → r x ≡ e → filter p (filter q xs) ≡ filter r xs → filter p (cond b (x ∷ filter q xs) (filter q xs)) ≡ cond e (x ∷ filter r xs) (filter r xs)
    go true true true f g h more = (λ i. cond (g i) (x ∷ more i) (more i))
    go true true false f g h more = absurd (let z : true ≡ false = (λ i. sym f i && sym g i) ∙ same x ∙ h in cc)
    go true false false f g h more = (λ i. cond (g i) (x ∷ more i) (more i))
    go true false true f g h more = absurd (let z : false ≡ true = (λ i. sym f i && sym g i) ∙ same x ∙ h in cc)
    go false c false f g h more = more
    go false c true f g h more = absurd (let z : false ≡ true = (λ i. sym f i && p x) ∙ same x ∙ h in cc)

filter_all : {A : Type 0} (p : A → Bool) → ((x : A) → p x ≡ true) → (xs : List A) → filter p xs ≡ xs
filter_all p pass [] = refl
filter_all p pass (x ∷ xs) = (λ i. cond (pass x i) (x ∷ filter_all p pass xs i) (filter_all p pass xs i))

filter_mapped : {A B : Type 0} (p : B → Bool) (g : A → B) (xs : List A) → filter p (map g xs) ≡ map g (filter (λ (x : A). p (g x)) xs)
filter_mapped p g [] = refl
filter_mapped p g (x ∷ xs) = go (p (g x)) (filter_mapped p g xs)
  where
    go : (b : Bool) → filter p (map g xs) ≡ map g (filter (λ x. p (g x)) xs) → cond b (g x ∷ filter p (map g xs)) (filter p (map g xs)) ≡ map g (cond b (x ∷ filter (λ x. p (g x)) xs) (filter (λ x. p (g x)) xs))
    go true more = ap (λ (ys : List _). g x ∷ ys) more
    go false more = more

filter_alike : {A : Type 0} (p q : A → Bool) (P : A → Type 0) → ((x : A) → P x → p x ≡ q x) → (xs : List A) → All P xs → filter p xs ≡ filter q xs
filter_alike p q P same [] h = refl
filter_alike p q P same (x ∷ xs) h =
    let more = filter_alike p q P same xs (All-tail P x xs h) in
    λ i. cond (same x (All-head P x xs h) i) (x ∷ more i) (more i)

-- ---- numbers in order

module _ (N : ℕ) where
  -- each is one of those below k, or k, which is new; at the end there are N
  abbrev pub Ordered : ℕ → List ℕ → Type 0
  Ordered k [] = k ≡ N
  Ordered k (n ∷ ns) = ((n < k) × Ordered k ns) ⊎ ((n ≡ k) × Ordered (suc k) ns)

  ordered_low : (k : ℕ) (ns : List ℕ) → Ordered k ns → k ≤ N
  ordered_low k [] h = omega (arith, h)
  ordered_low k (n ∷ ns) (inl h) = ordered_low k ns h.1
  ordered_low k (n ∷ ns) (inr h) = let l = ordered_low (suc k) ns h.1 in omega arith

  abbrev from : ℕ → ℕ → Bool
  from k n = not (nat_lt n k)

  from_low : (n k : ℕ) → n < k → from k n ≡ false
  from_low n k l = ap not (lt-ltb n k l)

  from_high : (n k : ℕ) → k ≤ n → from k n ≡ true
  from_high n k l = ap not (le-ltb n k l)

  once_from : (k : ℕ) (ns : List ℕ) → Ordered k ns → filter (from k) (each_once nat_eq ns) ≡ range_with_len k (N - k)
  once_from k [] h = ap (range_with_len k) (let e : 0 ≡ N - k = omega (arith, h) in e)
  once_from k (n ∷ ns) (inl h) =
      (λ i. cond (from_low n k h.0 i) (n ∷ filter (from k) (filter (λ (y : ℕ). not (nat_eq n y)) (each_once nat_eq ns))) (filter (from k) (filter (λ (y : ℕ). not (nat_eq n y)) (each_once nat_eq ns))))
      ∙ filter_both (from k) (λ (y : ℕ). not (nat_eq n y)) (from k) (λ x. elim (cases_lt x k) [
        | inl less ↦ (λ i. not (nat_eq n x) && from_low x k less i) ∙ none (not (nat_eq n x)) ∙ sym (from_low x k less)
        | inr more ↦ (let low = h.0 in (λ i. not (ne_eqb n x (λ e. omega arith) i) && from k x))
      ]) (each_once nat_eq ns)
      ∙ once_from k ns h.1
    where
      none : (b : Bool) → (b && false) ≡ false
      none true = refl
      none false = refl
  once_from k (n ∷ ns) (inr h) =
      let is = h.0 in
      let low = ordered_low (suc k) ns h.1 in
      (λ i. cond (from_high n k (omega arith) i) (n ∷ filter (from k) (filter (λ (y : ℕ). not (nat_eq n y)) (each_once nat_eq ns))) (filter (from k) (filter (λ (y : ℕ). not (nat_eq n y)) (each_once nat_eq ns))))
      ∙ ap (λ (ms : List ℕ). n ∷ ms) (filter_both (from k) (λ (y : ℕ). not (nat_eq n y)) (from (suc k)) (λ x. elim (cases_lt x k) [
        | inl less ↦ (λ i. not (nat_eq n x) && from_low x k less i) ∙ none (not (nat_eq n x)) ∙ sym (from_low x (suc k) (omega arith))
        | inr more ↦ elim (cases_eq n x) [
          | inl same ↦ (λ i. not (eq-eqb n x same i) && from k x) ∙ sym (from_low x (suc k) (omega arith))
          | inr other ↦ (λ i. not (ne_eqb n x other i) && from_high x k more i) ∙ sym (from_high x (suc k) (omega arith))
        ]
      ]) (each_once nat_eq ns) ∙ once_from (suc k) ns h.1)
      ∙ (λ i. is i ∷ range_with_len ((let e : suc k ≡ k + 1 = omega arith in e) i) (N - suc k))
      ∙ ap (range_with_len k) (let e : suc (N - suc k) ≡ N - k = omega arith in e)
    where
      none : (b : Bool) → (b && false) ≡ false
      none true = refl
      none false = refl

  pub once_ordered : (ns : List ℕ) → Ordered 0 ns → each_once nat_eq ns ≡ range_with_len 0 N
  once_ordered ns h = sym (filter_all (from 0) (λ n. from_high n 0 (omega arith)) (each_once nat_eq ns)) ∙ once_from 0 ns h ∙ ap (range_with_len 0) (let e : N - 0 ≡ N = omega arith in e)

  -- numbers are in order where before each all lesser ones are, and each below N is there
  module _ (all : List ℕ) (low : (i : ℕ) → i < length all → get_or all i 0 < N) (order : (i m : ℕ) → i < length all → m < get_or all i 0 → (j : ℕ) × (j < i) × (get_or all j 0 ≡ m))
      (used : (m : ℕ) → m < N → (i : ℕ) × (i < length all) × (get_or all i 0 ≡ m)) where
    ordered_at : (rest : List ℕ) (i k : ℕ) → ((j : ℕ) → j < length rest → get_or rest j 0 ≡ get_or all (i + j) 0) → i + length rest ≡ length all → ((j : ℕ) → j < i → get_or all j 0 < k) → k ≤ N → Ordered k rest
    ordered_at [] i k are size seen few = elim (cases_lt k N) [
      | inl less ↦ (let (j, below, is) = used k less in let l = seen j (omega arith) in absurd (omega arith))
      | inr same ↦ omega arith
    ]
    ordered_at (n ∷ rest) i k are size seen few =
        let here : n ≡ get_or all i 0 = are 0 (omega arith) ∙ ap (λ (j : ℕ). get_or all j 0) (let e : i + 0 ≡ i = omega arith in e) in
        let later : (j : ℕ) → j < length rest → get_or rest j 0 ≡ get_or all (suc i + j) 0 = (λ j l. are (suc j) (omega arith) ∙ ap (λ (m : ℕ). get_or all m 0) (let e : i + suc j ≡ suc i + j = omega arith in e)) in
        elim (cases_lt n k) [
          | inl less ↦ inl (
            less,
            ordered_at rest (suc i) k later (omega arith) (λ j l. elim (cases_lt j i) [
              | inl before ↦ seen j before
              | inr at ↦ subst (λ (m : ℕ). m < k) (here ∙ ap (λ (m : ℕ). get_or all m 0) (let e : i ≡ j = omega arith in e)) less
            ]) few,
          )
          | inr more ↦ elim (cases_lt k n) [
            | inl new ↦
                (let (j, before, is) = order i k (omega arith) (omega arith) in
                let l = seen j before in absurd (omega arith))
            | inr same ↦
                (let below = low i (omega arith) in
                inr (
                  (let e : n ≡ k = omega arith in e),
                  ordered_at rest (suc i) (suc k) later (omega arith) (λ j l. elim (cases_lt j i) [
                    | inl before ↦ (let m = seen j before in omega arith)
                    | inr at ↦ subst (λ (m : ℕ). m < suc k) (here ∙ ap (λ (m : ℕ). get_or all m 0) (let e : i ≡ j = omega arith in e)) (omega arith)
                  ]) (omega arith),
                ))
          ]
        ]

    pub in_order : Ordered 0 all
    in_order = ordered_at all 0 0 (λ j l. ap (λ (m : ℕ). get_or all m 0) (let e : j ≡ 0 + j = omega arith in e)) (omega arith) (λ j l. absurd (omega arith)) (omega arith)

-- ---- what is made of numbers, once

module _ {B : Type 0} (same : B → B → Bool) (g : ℕ → B) (N : ℕ) (alike : (m n : ℕ) → m < N → n < N → same (g m) (g n) ≡ nat_eq m n) where
  once_below : (ns : List ℕ) → All (λ n. n < N) ns → All (λ n. n < N) (each_once nat_eq ns)
  once_below [] h = All-nil (λ n. n < N)
  once_below (n ∷ ns) h = All-cons (λ n. n < N) n _ (All-head (λ n. n < N) n ns h) (All-filter (λ (y : ℕ). not (nat_eq n y)) (λ n. n < N) (each_once nat_eq ns) (once_below ns (All-tail (λ n. n < N) n ns h)))

  pub once_made : (ns : List ℕ) → All (λ n. n < N) ns → each_once same (map g ns) ≡ map g (each_once nat_eq ns)
  once_made [] h = refl
  once_made (n ∷ ns) h =
      let here = All-head (λ n. n < N) n ns h in
      let rest = All-tail (λ n. n < N) n ns h in
      ap (λ (ys : List B). g n ∷ filter (λ (y : B). not (same (g n) y)) ys) (once_made ns rest)
      ∙ ap (λ (ys : List B). g n ∷ ys) (filter_mapped (λ (y : B). not (same (g n) y)) g (each_once nat_eq ns)
      ∙ ap (map g) (filter_alike (λ (m : ℕ). not (same (g n) (g m))) (λ (m : ℕ). not (nat_eq n m)) (λ m. m < N) (λ m l. ap not (alike n m here l)) (each_once nat_eq ns) (once_below ns rest)))

-- the elements of a list by their numbers
pub gathered : {A : Type 0} (d : A) (xs : List A) → map (λ (n : ℕ). get_or xs n d) (range_with_len 0 (length xs)) ≡ xs
gathered d xs = from_place d xs xs 0 (λ j l. ap (λ (n : ℕ). get_or xs n d) (let e : 0 + j ≡ j = omega arith in e))
  where
    from_place : {A : Type 0} (d : A) (all rest : List A) (i : ℕ) → ((j : ℕ) → j < length rest → get_or all (i + j) d ≡ get_or rest j d) → map (λ (n : ℕ). get_or all n d) (range_with_len i (length rest)) ≡ rest
    from_place d all [] i h = refl
    from_place d all (x ∷ rest) i h =
        let here : get_or all i d ≡ x = ap (λ (n : ℕ). get_or all n d) (let e : i ≡ i + 0 = omega arith in e) ∙ h 0 (omega arith) in
        λ k. here k ∷ from_place d all rest (i + 1) (λ j l. ap (λ (n : ℕ). get_or all n d) (let e : i + 1 + j ≡ i + suc j = omega arith in e) ∙ h (suc j) (omega arith)) k
