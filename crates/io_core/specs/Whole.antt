-- Reading to the end, and writing a whole text: what was taken, what was left, and what stands under a name.
use Rattle.std.specs.Prelude.{◌≡◌, ℕ, ◌<◌, ◌⊎◌, [], take, length, Option, Some, None, Result, ⊤, MatchOption, MatchResult}
use Rattle.std.specs.Io.KnownBytes.{Appends, Consumes}
use Rattle.io_core.specs.Contents.{Content, FileMap, SameFiles, Puts}

-- told: all that was left was taken, and nothing is left
abbrev pub TakesAll : Option Content → Option Content → Content → Type 0
TakesAll None new bytes = ⊤
TakesAll (Some all) None bytes = ⊥
TakesAll (Some all) (Some rest) bytes = (bytes ≡ all) × (rest ≡ [])

-- told: a front of what was left was taken
abbrev pub TakesFront : Option Content → Option Content → Type 0
TakesFront old new = (front : Content) × Consumes old new front

-- told: a fact of the bytes under the name, or of there being none
abbrev pub AtName : Option FileMap → Content → Type 0 → (Content → Type 0) → Type 0
AtName told name lacking there = MatchOption told ⊤ (λ files. MatchOption (files name) lacking there)

-- the files lack the name, or, where they do not tell, another fact
abbrev pub MissesName : Option FileMap → Content → Type 0 → Type 0
MissesName None name untold = untold
MissesName (Some files) name untold = files name ≡ None

-- told: all of these bytes were written, or, where that failed, a front of them that is not all
abbrev pub WritesWhole : {T E : Type 0} → Option Content → Option Content → Result T E → Content → Type 0
WritesWhole old new result bytes = MatchResult result (λ _. Appends old new bytes) (λ _. (n : ℕ) × (n < length bytes) × Appends old new (take n bytes))

-- told: the name holds just these bytes, or, where that failed, it is as before or holds a front of them; the others
-- are as before
abbrev pub FilesWhole : {T E : Type 0} → Option FileMap → Option FileMap → Content → Result T E → Content → Type 0
FilesWhole old new name result bytes = MatchResult result (λ _. Puts old new name (λ _. bytes)) (λ _. SameFiles old new ⊎ ((n : ℕ) × (n < length bytes) × Puts old new name (λ _. take n bytes)))
