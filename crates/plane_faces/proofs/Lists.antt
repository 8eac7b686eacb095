-- Small facts on lists: elements, counts, orders.
use Rattle.std.proofs.Common.{◌≡◌, ◌⊎◌, inl, inr, ℕ, zero, suc, ◌+◌, ◌≤◌, ◌<◌, refl, sym, ap, subst, ◌∙◌, arith, Bool, true, false, not, cond, List, [], ◌∷◌, ◌++◌}
use Rattle.std.specs.Prelude.{All, Contains}
use Rattle.std.specs.List.{sum_by}
use Rattle.std.specs.List.Sorted.{IsPermutation}
use Rattle.std.proofs.lemmas.List.Elements.{All-cons, All-weaker, All-contains, All-contains_itself, Contains-append_left, Contains-append_right}
use Rattle.std.proofs.lemmas.List.Sorted.{sum_by-IsPermutation}
use Rattle.std.proofs.lemmas.List.Sums.{sum_by-cons}
use Rattle.lists.proofs.Members.{Contains-head, Contains-later, Contains-nil}
use Rattle.plane_model.specs.Parity.{xor, odd_count}

-- how a parity is read off a number
bit : Bool → ℕ
bit true = 1
bit false = 0

odd_number : ℕ → Bool
odd_number zero = false
odd_number (suc n) = not (odd_number n)

module _ {X : Type 0} where
  pub contains_cases : (x : X) (xs : List X) (y : X) → Contains (x ∷ xs) y → (y ≡ x) ⊎ Contains xs y
  contains_cases x xs y c =
      All-contains (λ z. (z ≡ x) ⊎ Contains xs z) (x ∷ xs) y
      (All-cons (λ z. (z ≡ x) ⊎ Contains xs z) x xs (inl refl) (All-weaker (Contains xs) (λ z. (z ≡ x) ⊎ Contains xs z) (λ z k. inr k) xs (All-contains_itself xs))) c

  pub all_left : (P : X → Type 0) (xs ys : List X) → All P (xs ++ ys) → All P xs
  all_left P xs ys h = All-weaker (Contains xs) P (λ y c. All-contains P (xs ++ ys) y h (Contains-append_left xs ys y c)) xs (All-contains_itself xs)

  pub all_right : (P : X → Type 0) (xs ys : List X) → All P (xs ++ ys) → All P ys
  all_right P xs ys h = All-weaker (Contains ys) P (λ y c. All-contains P (xs ++ ys) y h (Contains-append_right xs ys y c)) ys (All-contains_itself ys)

  -- an element that passes the test, or none
  pub find : (t : X → Bool) (xs : List X) → ((x : X) × Contains xs x × (t x ≡ true)) ⊎ ((x : X) → Contains xs x → t x ≡ false)
  find t [] = inr (λ x c. absurd (Contains-nil x c))
  find t (x ∷ xs) = go (t x) refl (find t xs)
    where
      go : (b : Bool) → t x ≡ b → ((y : X) × Contains xs y × (t y ≡ true)) ⊎ ((y : X) → Contains xs y → t y ≡ false)
          → ((y : X) × Contains (x ∷ xs) y × (t y ≡ true)) ⊎ ((y : X) → Contains (x ∷ xs) y → t y ≡ false)
      go true e r = inl (x, Contains-head x xs, e)
      go false e (inl f) = inl (f.0, Contains-later x xs f.0 f.1, f.2)
      go false e (inr n) = inr (λ y c. elim (contains_cases x xs y c) [ inl g ↦ subst (λ (z : X). t z ≡ false) (sym g) e | inr k ↦ n y k ])

  -- ---- numbers of elements

  unfoldable pub count : (X → Bool) → List X → ℕ
  count t [] = 0
  count t (x ∷ xs) = cond (t x) (suc (count t xs)) (count t xs)

  pub count_le : (t u : X → Bool) (xs : List X) → ((x : X) → Contains xs x → t x ≡ true → u x ≡ true) → count t xs ≤ count u xs
  unfolding count
  count_le t u [] h = omega arith
  count_le t u (x ∷ xs) h = go (t x) (u x) (h x (Contains-head x xs)) (count_le t u xs (λ y c. h y (Contains-later x xs y c)))
    where
      go : (a b : Bool) → (a ≡ true → b ≡ true) → count t xs ≤ count u xs → cond a (suc (count t xs)) (count t xs) ≤ cond b (suc (count u xs)) (count u xs)
      go true true i l = omega arith
      go true false i l = let e : false ≡ true = i refl in absurd (cc)
      go false true i l = omega arith
      go false false i l = l

  pub count_lt : (t u : X → Bool) (xs : List X) → ((x : X) → Contains xs x → t x ≡ true → u x ≡ true) → (y : X) → Contains xs y → t y ≡ false → u y ≡ true → count t xs < count u xs
  unfolding count
  count_lt t u [] h y c e f = absurd (Contains-nil y c)
  count_lt t u (x ∷ xs) h y c e f = elim (contains_cases x xs y c) [
    | inl g ↦ here (t x) (u x) (subst (λ (z : X). t z ≡ false) g e) (subst (λ (z : X). u z ≡ true) g f) (count_le t u xs (λ z k. h z (Contains-later x xs z k)))
    | inr k ↦ there (t x) (u x) (h x (Contains-head x xs)) (count_lt t u xs (λ z j. h z (Contains-later x xs z j)) y k e f)
  ]
    where
      here : (a b : Bool) → a ≡ false → b ≡ true → count t xs ≤ count u xs → cond a (suc (count t xs)) (count t xs) < cond b (suc (count u xs)) (count u xs)
      here true b i j l = let k : true ≡ false = i in absurd (cc)
      here false true i j l = omega arith
      here false false i j l = let k : false ≡ true = j in absurd (cc)

      there : (a b : Bool) → (a ≡ true → b ≡ true) → count t xs < count u xs → cond a (suc (count t xs)) (count t xs) < cond b (suc (count u xs)) (count u xs)
      there true true i l = omega arith
      there true false i l = let e : false ≡ true = i refl in absurd (cc)
      there false true i l = omega arith
      there false false i l = l

  -- ---- permutations keep parities

  odd_count-sum : (t : X → Bool) (xs : List X) → odd_count t xs ≡ odd_number (sum_by (λ x. bit (t x)) xs)
  unfolding bit odd_number
  odd_count-sum t [] = refl
  odd_count-sum t (x ∷ xs) = ap (xor (t x)) (odd_count-sum t xs) ∙ go (t x) (sum_by (λ y. bit (t y)) xs) ∙ ap odd_number (sym (sum_by-cons (λ y. bit (t y)) x xs))
    where
      go : (b : Bool) (n : ℕ) → xor b (odd_number n) ≡ odd_number (bit b + n)
      go true n = ap odd_number same
        where
          same : suc n ≡ 1 + n
          same = omega arith
      go false n = ap odd_number same
        where
          same : n ≡ 0 + n
          same = omega arith

  pub odd_count-permutation : (t : X → Bool) (xs ys : List X) → IsPermutation xs ys → odd_count t xs ≡ odd_count t ys
  odd_count-permutation t xs ys h = odd_count-sum t xs ∙ ap odd_number (sym (sum_by-IsPermutation (λ x. bit (t x)) xs ys h)) ∙ sym (odd_count-sum t ys)

  pub count_append : (t : X → Bool) (xs ys : List X) → count t (xs ++ ys) ≡ count t xs + count t ys
  unfolding count
  count_append t [] ys = omega arith
  count_append t (x ∷ xs) ys = go (t x) (count_append t xs ys)
    where
      go : (b : Bool) → count t (xs ++ ys) ≡ count t xs + count t ys → cond b (suc (count t (xs ++ ys))) (count t (xs ++ ys)) ≡ cond b (suc (count t xs)) (count t xs) + count t ys
      go true h = omega arith
      go false h = h

  odd_count-count : (t : X → Bool) (xs : List X) → odd_count t xs ≡ odd_number (count t xs)
  unfolding count odd_number
  odd_count-count t [] = refl
  odd_count-count t (x ∷ xs) = ap (xor (t x)) (odd_count-count t xs) ∙ go (t x)
    where
      go : (b : Bool) → xor b (odd_number (count t xs)) ≡ odd_number (cond b (suc (count t xs)) (count t xs))
      go true = refl
      go false = refl

  count-sum : (t : X → Bool) (xs : List X) → count t xs ≡ sum_by (λ x. bit (t x)) xs
  unfolding count bit
  count-sum t [] = refl
  count-sum t (x ∷ xs) = go (t x) (count-sum t xs) ∙ sym (sum_by-cons (λ y. bit (t y)) x xs)
    where
      go : (b : Bool) → count t xs ≡ sum_by (λ y. bit (t y)) xs → cond b (suc (count t xs)) (count t xs) ≡ bit b + sum_by (λ y. bit (t y)) xs
      go true h = omega (arith, h)
      go false h = omega (arith, h)

  pub count-permutation : (t : X → Bool) (xs ys : List X) → IsPermutation xs ys → count t xs ≡ count t ys
  count-permutation t xs ys h = count-sum t xs ∙ sym (sum_by-IsPermutation (λ x. bit (t x)) xs ys h) ∙ sym (count-sum t ys)

  pub count_none : (t : X → Bool) (xs : List X) → ((x : X) → Contains xs x → t x ≡ false) → count t xs ≡ 0
  unfolding count
  count_none t [] h = refl
  count_none t (x ∷ xs) h = go (t x) (h x (Contains-head x xs)) (count_none t xs (λ y c. h y (Contains-later x xs y c)))
    where
      go : (b : Bool) → b ≡ false → count t xs ≡ 0 → cond b (suc (count t xs)) (count t xs) ≡ 0
      go true e h = let f : true ≡ false = e in absurd (cc)
      go false e h = h

  pub odd_of_none : (t : X → Bool) (xs : List X) → count t xs ≡ 0 → odd_count t xs ≡ false
  unfolding odd_number
  odd_of_none t xs e = odd_count-count t xs ∙ ap odd_number e

  pub odd_of_one : (t : X → Bool) (xs : List X) → count t xs ≡ 1 → odd_count t xs ≡ true
  unfolding odd_number
  odd_of_one t xs e = odd_count-count t xs ∙ ap odd_number e
