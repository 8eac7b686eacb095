-- The numbers of the items that pass a test rise, and each is that of an item that passes.
use Rattle.std.proofs.Common.{◌≡◌, inl, inr, refl, arith, ℕ, suc, ◌+◌, ◌<◌, ◌≤◌, Bool, true, false, cond, List, [], ◌∷◌, length, get_or, All, AllPairs, Contains}
use Rattle.std.specs.List.Sorted.{IsStrictlyIncreasing}
use Rattle.std.proofs.lemmas.List.Elements.{All-nil, All-cons, All-weaker}
use Rattle.std.proofs.lemmas.List.Kept.{AllPairs-cons}
use Rattle.lists.specs.Lists.{numbers_from, numbers_where}
use Rattle.lists.proofs.Members.{Contains-cases, Contains-nil}

abbrev pub Rises : List ℕ → Type 0
Rises xs = AllPairs (λ (x y : ℕ). x < y) xs

pub increasing : (xs : List ℕ) → Rises xs → IsStrictlyIncreasing xs
increasing xs h k within = h k (k + 1) 0 (omega arith) within

module _ {A : Type 0} (p : A → Bool) where
  numbers_above : (n : ℕ) (xs : List A) → All (λ (i : ℕ). n ≤ i) (numbers_from n p xs)
  numbers_above n [] = All-nil (λ (i : ℕ). n ≤ i)
  numbers_above n (x ∷ xs) = go (p x) (All-weaker (λ (i : ℕ). n + 1 ≤ i) (λ (i : ℕ). n ≤ i) (λ i l. omega arith) (numbers_from (n + 1) p xs) (numbers_above (n + 1) xs))
    where
      go : (b : Bool) → All (λ (i : ℕ). n ≤ i) (numbers_from (n + 1) p xs) → All (λ (i : ℕ). n ≤ i) (cond b (n ∷ numbers_from (n + 1) p xs) (numbers_from (n + 1) p xs))
      go true h = All-cons (λ (i : ℕ). n ≤ i) n (numbers_from (n + 1) p xs) (omega arith) h
      go false h = h

  numbers_rise : (n : ℕ) (xs : List A) → Rises (numbers_from n p xs)
  numbers_rise n [] = λ i j d l m. absurd (omega arith)
  numbers_rise n (x ∷ xs) = go (p x) (numbers_rise (n + 1) xs)
    where
      go : (b : Bool) → Rises (numbers_from (n + 1) p xs) → Rises (cond b (n ∷ numbers_from (n + 1) p xs) (numbers_from (n + 1) p xs))
      go true h = AllPairs-cons (λ (i j : ℕ). i < j) n (numbers_from (n + 1) p xs) (All-weaker (λ (i : ℕ). n + 1 ≤ i) (λ (i : ℕ). n < i) (λ i l. omega arith) (numbers_from (n + 1) p xs) (numbers_above (n + 1) xs)) h
      go false h = h

  pub numbers_where_rise : (xs : List A) → IsStrictlyIncreasing (numbers_where p xs)
  numbers_where_rise xs = increasing (numbers_where p xs) (numbers_rise 0 xs)

  -- item j passes, and has the number i
  pub record Passes (n : ℕ) (xs : List A) (i : ℕ) : Type 0 where
    pub place : ℕ
    pub item : A
    pub number : i ≡ n + place
    pub within : place < length xs
    pub is : get_or xs place item ≡ item
    pub passes : p item ≡ true

  pub numbers_pass : (n : ℕ) (xs : List A) (i : ℕ) → Contains (numbers_from n p xs) i → Passes n xs i
  numbers_pass n [] i c = Contains-nil i c
  numbers_pass n (x ∷ xs) i c = go (p x) refl c (λ d. later (numbers_pass (n + 1) xs i d))
    where
      later : Passes (n + 1) xs i → Passes n (x ∷ xs) i
      later h = let e = h.number in let l = h.within in record { place = suc h.place; item = h.item; number = omega arith; within = omega arith; is = h.is; passes = h.passes }

      go : (b : Bool) → p x ≡ b → Contains (cond b (n ∷ numbers_from (n + 1) p xs) (numbers_from (n + 1) p xs)) i → (Contains (numbers_from (n + 1) p xs) i → Passes n (x ∷ xs) i) → Passes n (x ∷ xs) i
      go true e c more = elim (Contains-cases n (numbers_from (n + 1) p xs) i c) [
        | inl f ↦ record { place = 0; item = x; number = omega arith; within = omega arith; is = refl; passes = e }
        | inr d ↦ more d
      ]
      go false e c more = more c

  pub numbers_where_pass : (xs : List A) (i : ℕ) → Contains (numbers_where p xs) i → Passes 0 xs i
  numbers_where_pass xs i c = numbers_pass 0 xs i c
