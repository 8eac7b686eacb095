-- What is left of sets that share faces, where a rule ranks the sets.
use Rattle.std.specs.Prelude.{◌≡◌, ℕ, ◌<◌, Bool, false, not, ◌&&◌, ◌||◌, if◌then◌else◌, ℤ, pos, int_lt, nat_lt, nat_eq, List, [], length, filter, slice_index_or, Option, Some, None, All, Contains}
use Rattle.std.specs.List.{list_any}
use Rattle.grid_base.specs.declared.kinds.OverlapRule.{OverlapRule}
use Rattle.grid_base.specs.declared.kinds.OverlapRule.TheVariants.{MinId, MaxId, MinArea, MaxArea}
use Rattle.face_sets.specs.Owners.{owners_of}
pub use Rattle.face_sets.specs.Sets.{area_of}
use Rattle.region_ops.specs.Dissolved.{set_at}

-- of two areas of sets m and n: less, or equal and of the lower number
abbrev pub by_size : Bool → Bool → Bool → Bool
by_size smaller greater lower = smaller || (not greater && lower)

-- set m, of twice the area a, ranks before set n, of twice the area b
abbrev pub ranks_before : OverlapRule → ℕ → ℤ → ℕ → ℤ → Bool
ranks_before MinId m a n b = nat_lt m n
ranks_before MaxId m a n b = nat_lt n m
ranks_before MinArea m a n b = by_size (int_lt a b) (int_lt b a) (nat_lt m n)
ranks_before MaxArea m a n b = by_size (int_lt b a) (int_lt a b) (nat_lt m n)

-- some set that has face k ranks before set n
abbrev pub is_lost : OverlapRule → List ℤ → List (List ℕ) → ℕ → ℕ → Bool
is_lost rule areas sets n k = list_any (λ (m : ℕ). ranks_before rule m (area_of areas (set_at sets m)) n (area_of areas (set_at sets n))) (owners_of sets k)

-- each set keeps its faces that no set has which ranks before it
pub record IsCleaned (rule : OverlapRule) (areas : List ℤ) (sets : List (List ℕ)) (cleaned : List (List ℕ)) : Type 0 where
  pub count : length cleaned ≡ length sets
  pub kept : (n : ℕ) → n < length sets → set_at cleaned n ≡ filter (λ (k : ℕ). not (is_lost rule areas sets n k)) (set_at sets n)

-- ---- on the way, from twice the area of each set

abbrev pub is_before : OverlapRule → List ℤ → ℕ → ℕ → Bool
is_before rule areas m n = ranks_before rule m (slice_index_or areas m (pos 0)) n (slice_index_or areas n (pos 0))

-- of the first so far, and one more, that which ranks before the other
abbrev pub earlier : OverlapRule → List ℤ → Option ℕ → ℕ → ℕ
earlier rule areas None n = n
earlier rule areas (Some m) n = if is_before rule areas m n then m else n

-- one of the numbers, such that none of them ranks before it; of no numbers none
abbrev pub IsFirst : OverlapRule → List ℤ → List ℕ → Option ℕ → Type 0
IsFirst rule areas numbers None = numbers ≡ []
IsFirst rule areas numbers (Some m) = Contains numbers m × All (λ n. is_before rule areas n m ≡ false) numbers

-- for each of `count` faces the first of the sets that have it
pub record AreFirsts (rule : OverlapRule) (areas : List ℤ) (sets : List (List ℕ)) (count : ℕ) (firsts : List (Option ℕ)) : Type 0 where
  pub each : length firsts ≡ count
  pub exact : (k : ℕ) → k < count → IsFirst rule areas (owners_of sets k) (slice_index_or firsts k None)

abbrev pub is_number : ℕ → Option ℕ → Bool
is_number n None = false
is_number n (Some m) = nat_eq m n

-- set n is the first that has face k
abbrev pub is_first : List (Option ℕ) → ℕ → ℕ → Bool
is_first firsts n k = is_number n (slice_index_or firsts k None)

-- what the first `count` sets have won
pub record AreWon (firsts : List (Option ℕ)) (sets : List (List ℕ)) (count : ℕ) (won : List (List ℕ)) : Type 0 where
  pub each : length won ≡ count
  pub exact : (n : ℕ) → n < count → set_at won n ≡ filter (is_first firsts n) (set_at sets n)
