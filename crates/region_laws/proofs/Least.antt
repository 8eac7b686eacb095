-- The least of some numbers.
use Rattle.std.proofs.Common.{◌≡◌, ◌⊎◌, inl, inr, refl, sym, subst, arith, ℕ, ◌<◌, ◌≤◌, Bool, true, false, cond, nat_lt, List, [], ◌∷◌, Contains, length}
use Rattle.std.proofs.lemmas.Bool.Decides.{nat_tests}
use Rattle.lists.proofs.Members.{Contains-cases, Contains-head, Contains-later, Contains-nil}

pub lower : ℕ → ℕ → ℕ
lower m n = cond (nat_lt m n) m n

lower_is : (m n : ℕ) → (lower m n ≤ m) × (lower m n ≤ n) × ((lower m n ≡ m) ⊎ (lower m n ≡ n))
unfolding lower
lower_is m n = go (nat_lt m n) refl
  where
    go : (b : Bool) → nat_lt m n ≡ b → (cond b m n ≤ m) × (cond b m n ≤ n) × ((cond b m n ≡ m) ⊎ (cond b m n ≡ n))
    go true e = (omega arith, grind (arith, nat_tests), inl refl)
    go false e = (grind (arith, nat_tests), omega arith, inr refl)

-- the least of some numbers, and 0 where there are none
pub lowest : List ℕ → ℕ
lowest [] = 0
lowest (n ∷ []) = n
lowest (n ∷ m ∷ rest) = lower n (lowest (m ∷ rest))

pub lowest_there : (xs : List ℕ) → 0 < length xs → Contains xs (lowest xs)
unfolding lowest
lowest_there [] l = absurd (omega arith)
lowest_there (n ∷ []) l = Contains-head n []
lowest_there (n ∷ m ∷ rest) l = go (lower_is n (lowest (m ∷ rest))).2 (lowest_there (m ∷ rest) (omega arith))
  where
    go : (lower n (lowest (m ∷ rest)) ≡ n) ⊎ (lower n (lowest (m ∷ rest)) ≡ lowest (m ∷ rest)) → Contains (m ∷ rest) (lowest (m ∷ rest)) → Contains (n ∷ m ∷ rest) (lower n (lowest (m ∷ rest)))
    go (inl e) c = subst (Contains (n ∷ m ∷ rest)) (sym e) (Contains-head n (m ∷ rest))
    go (inr e) c = subst (Contains (n ∷ m ∷ rest)) (sym e) (Contains-later n (m ∷ rest) (lowest (m ∷ rest)) c)

pub lowest_least : (xs : List ℕ) (k : ℕ) → Contains xs k → lowest xs ≤ k
unfolding lowest
lowest_least [] k c = Contains-nil k c
lowest_least (n ∷ []) k c = elim (Contains-cases n [] k c) [ inl e ↦ omega arith | inr d ↦ Contains-nil k d ]
lowest_least (n ∷ m ∷ rest) k c =
    let is = lower_is n (lowest (m ∷ rest)) in
    let first = is.0 in
    let second = is.1 in
    elim (Contains-cases n (m ∷ rest) k c) [
      | inl e ↦ omega arith
      | inr d ↦ (let r = lowest_least (m ∷ rest) k d in omega arith)
    ]
