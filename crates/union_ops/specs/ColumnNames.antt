-- The names of the columns of a union: all names in order, each made new among those before it.
use Rattle.std.specs.Prelude.{◌≡◌, ℕ, ◌<◌, ◌≤◌, ◌^◌, true, false, List, [], ◌++◌, codes, decimal, length, slice_index_or, take}
use Rattle.table_terms.specs.Names.{Text, has_name}

abbrev pub numbered : Text → ℕ → Text
numbered name k = name ++ (codes "_" ++ decimal k)

-- the name, `_` and the least number from 2 on that makes it new, which 32 bits hold
pub record IsNumbered (earlier : List Text) (name out : Text) : Type 0 where
  pub number : ℕ
  pub from : 2 ≤ number
  pub below : number < 2 ^ 32
  pub is : out ≡ numbered name number
  pub new : has_name earlier out ≡ false
  pub least : (k : ℕ) → 2 ≤ k → k < number → has_name earlier (numbered name k) ≡ true

-- a name that no earlier column has stays as it is, another is numbered
pub record IsNewName (earlier : List Text) (name out : Text) : Type 0 where
  pub alone : has_name earlier name ≡ false → out ≡ name
  pub doubled : has_name earlier name ≡ true → IsNumbered earlier name out

-- each name in turn, made new among the columns before it
pub record AreNewNames (names outs : List Text) : Type 0 where
  pub each : length outs ≡ length names
  pub named : (i : ℕ) → i < length names → IsNewName (take i outs) (slice_index_or names i []) (slice_index_or outs i [])

-- ---- on the way

-- for each column the numbers below one of its own make no new name of its name
pub record AreTried (names : List Text) (untried : List ℕ) : Type 0 where
  pub each : length untried ≡ length names
  pub from : (i : ℕ) → i < length names → 2 ≤ slice_index_or untried i 0
  pub tried : (i k : ℕ) → i < length names → 2 ≤ k → k < slice_index_or untried i 0 → has_name names (numbered (slice_index_or names i []) k) ≡ true

-- from a number on, the least that makes the name new
pub record IsFree (earlier : List Text) (name : Text) (first number : ℕ) : Type 0 where
  pub from : first ≤ number
  pub new : has_name earlier (numbered name number) ≡ false
  pub least : (k : ℕ) → first ≤ k → k < number → has_name earlier (numbered name k) ≡ true
