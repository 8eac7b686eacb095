-- What files hold, where they tell it: bytes under names; and what reading, creating and appending do to them.
use Rattle.std.specs.Prelude.{◌≡◌, ◌≢◌, ℕ, ◌<◌, ◌≤◌, ◌++◌, List, [], take, drop, length, Option, Some, None, Result, Err, ⊤, MatchOption, MatchResult, IfOk, OnErr, IsErrOf, unwrap_or}
use Rattle.io_core.specs.Counts.{Rose, NoneFell}
use Rattle.io_core.specs.declared.outside.FileFault.{FileFault}
use Rattle.io_core.specs.declared.outside.FileFault.TheVariants as fault

-- a name, or the bytes under it
abbrev pub Content : Type 0
Content = List ℕ

-- the bytes under each name, where the name is there
abbrev pub FileMap : Type 0
FileMap = Content → Option Content

-- told maps stay told, and hold the same
abbrev pub SameFiles : Option FileMap → Option FileMap → Type 0
SameFiles None None = ⊤
SameFiles None (Some new) = ⊥
SameFiles (Some old) None = ⊥
SameFiles (Some old) (Some new) = (name : Content) → new name ≡ old name

-- the new map has these bytes under one name, and the old ones under every other
pub record Holds (old new : FileMap) (name : Content) (bytes : Content) : Type 0 where
  pub there : new name ≡ Some bytes
  pub others : (other : Content) → other ≢ name → new other ≡ old other

-- told maps stay told; the bytes under one name change, and no others
abbrev pub Puts : Option FileMap → Option FileMap → Content → (Option Content → Content) → Type 0
Puts None None name change = ⊤
Puts None (Some new) name change = ⊥
Puts (Some old) None name change = ⊥
Puts (Some old) (Some new) name change = Holds old new name (change (old name))

-- ---- reading at a place

-- n bytes from this place on; none only at the end, or with no room
pub record GivesBytes (bytes : Content) (at n : ℕ) (buf : Content) : Type 0 where
  pub within : n ≤ length (drop at bytes)
  pub same : take n buf ≡ take n (drop at bytes)
  pub end : n ≡ 0 → 0 < length buf → length bytes ≤ at

-- of a name that is there, bytes or a failure; of one that is not, Missing
abbrev pub GivesFrom : Option Content → ℕ → Result ℕ FileFault → Content → Type 0
GivesFrom None at result buf = result ≡ Err fault.Missing
GivesFrom (Some bytes) at result buf = (result ≢ Err fault.Missing) × IfOk result (λ n. GivesBytes bytes at n buf)

abbrev pub ReadsAt : Option FileMap → Content → ℕ → Result ℕ FileFault → Content → Type 0
ReadsAt None name at result buf = ⊤
ReadsAt (Some files) name at result buf = GivesFrom (files name) at result buf

-- the read count of the name rose where the call failed, and where it misses a name of files that do not tell
pub record HasReadCause (told : Option FileMap) (before now : Content → ℕ) (name : Content) (result : Result ℕ FileFault) : Type 0 where
  pub kept : NoneFell before now
  pub failed : IsErrOf result fault.Failed → Rose (before name) (now name)
  pub missing : IsErrOf result fault.Missing → MatchOption told (Rose (before name) (now name)) (λ _. (other : Content) → now other ≡ before other)

-- counts that a call for a name that told files lack leaves as they were
abbrev pub KeptIfMissing : Option FileMap → (Content → ℕ) → (Content → ℕ) → Result ℕ FileFault → Type 0
KeptIfMissing told before now result = IsErrOf result fault.Missing → MatchOption told ⊤ (λ _. (other : Content) → now other ≡ before other)

-- ---- creating and appending

-- empty bytes under the name, or nothing changed
abbrev pub Creates : {T E : Type 0} → Option FileMap → Option FileMap → Content → Result T E → Type 0
Creates old new name result = MatchResult result (λ _. Puts old new name (λ _. [])) (λ _. SameFiles old new)

-- a front of the piece, after what was there; a name that is not there is first given empty bytes
abbrev pub AppendsTo : {E : Type 0} → Option FileMap → Option FileMap → Content → Result ℕ E → Content → Type 0
AppendsTo old new name result piece = MatchResult result (λ n. Puts old new name (λ was. unwrap_or was [] ++ take n piece)) (λ _. SameFiles old new)

-- some bytes of a piece that has any
abbrev pub TakesSome : {E : Type 0} → Result ℕ E → Content → Type 0
TakesSome result piece = IfOk result (λ n. (n ≤ length piece) × (0 < length piece → 0 < n))

-- the write count of the name rose where the call failed
pub record HasWriteCause {T E : Type 0} (before now : Content → ℕ) (name : Content) (result : Result T E) : Type 0 where
  pub kept : NoneFell before now
  pub failed : OnErr result (Rose (before name) (now name))
