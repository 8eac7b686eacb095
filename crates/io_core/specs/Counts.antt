-- Counts of faults and of bytes read: they never fall, and one that stands at 2^64 - 1 stays there.
use Rattle.std.specs.Prelude.{◌≡◌, ℕ, ◌+◌, ◌-◌, ◌^◌, ◌≤◌, min, List, Result, IfOk, OnErr}

-- the last value of a count
abbrev pub last : ℕ
last = 2 ^ 64 - 1

-- a count that rose by n, as far as it goes
abbrev pub raised : ℕ → ℕ → ℕ
raised n before = min (before + n) last

-- a count rose, or stands at its last value
abbrev pub Rose : ℕ → ℕ → Type 0
Rose before now = raised 1 before ≤ now

-- a count did not fall, and stayed at its last value
pub record NeverFell (before now : ℕ) : Type 0 where
  pub later : before ≤ now
  pub stays : before ≡ last → now ≡ last

-- under each name
abbrev pub NoneFell : (List ℕ → ℕ) → (List ℕ → ℕ) → Type 0
NoneFell before now = (name : List ℕ) → NeverFell (before name) (now name)

-- the count of a call did not fall, and rose where the call failed
pub record HasCause {T E : Type 0} (before now : ℕ) (result : Result T E) : Type 0 where
  pub kept : NeverFell before now
  pub failed : OnErr result (Rose before now)

-- the number of bytes read did not fall, and rose by the length that the call answered
pub record CountsBytes {E : Type 0} (before now : ℕ) (result : Result ℕ E) : Type 0 where
  pub kept : NeverFell before now
  pub answered : IfOk result (λ n. now ≡ raised n before)
