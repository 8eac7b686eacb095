-- Numbers of elements that pass a test.
use Rattle.std.proofs.Common.{◌≡◌, arith, ℕ, ◌+◌, ◌<◌, Bool, true, false, cond, List, [], ◌∷◌, Contains, length, get_or, nat_eq, nat_lt}
use Rattle.std.proofs.lemmas.Bool.{lt-ltb}
use Rattle.lists.specs.Lists.{has, numbers_from}
use Rattle.lists.proofs.Ascending.{IsAscending}
use Rattle.face_sets.specs.Owners.{owners_of}
use Rattle.region_ops.proofs.OwnerSets.{of_numbers}

-- they rise
pub numbers_rise : {X : Type 0} (k : ℕ) (test : X → Bool) (xs : List X) → IsAscending nat_lt (numbers_from k test xs)
numbers_rise k test [] = tt
numbers_rise {X} k test (x ∷ xs) = go (test x) (λ m c. later m (of_numbers (k + 1) test xs m x c)) (numbers_rise (k + 1) test xs)
  where
    later : (m : ℕ) → ((n : ℕ) × (m ≡ k + 1 + n) × (n < length xs) × (test (get_or xs n x) ≡ true)) → nat_lt k m ≡ true
    later m (n, is, below, passes) = lt-ltb k m (omega arith)

    go : (b : Bool) → ((m : ℕ) → Contains (numbers_from (k + 1) test xs) m → nat_lt k m ≡ true) → IsAscending nat_lt (numbers_from (k + 1) test xs) →
        IsAscending nat_lt (cond b (k ∷ numbers_from (k + 1) test xs) (numbers_from (k + 1) test xs))
    go true first rest = (first, rest)
    go false first rest = rest

pub owners_rise : (sets : List (List ℕ)) (k : ℕ) → IsAscending nat_lt (owners_of sets k)
owners_rise sets k = numbers_rise 0 (λ (set : List ℕ). has nat_eq set k) sets
