-- Laws of the grammar and the machine.
use Rattle.std.specs.Prelude.{ℕ, suc, ◌≡◌, ◌≤◌, List, [], ◌∷◌, ◌⊎◌}
use Rattle.json_values.specs.Grammar.{JsonText}
use Rattle.json_values.specs.Proper.{IsProper}
use Rattle.json_read.specs.Machine.{run, accepted, fault, start}
use Rattle.json_values.specs.Json.{JsonValue}
use Rattle.json_read.specs.declared.reader.Fault.{Fault}
use Rattle.json_read.specs.declared.reader.Fault.TheVariants.{Depth}

-- the machine accepts each text
abbrev pub EachTextIsAccepted : Type 0
EachTextIsAccepted = (d : ℕ) (t : List ℕ) (v : JsonValue) → JsonText d t v → run d start [] t ≡ accepted

-- A fault of depth is one of its depth alone: the next byte is `[` or `{`, and with one more level
-- the machine has no fault there.
abbrev pub DepthIsAlone : Type 0
DepthIsAlone =
    (d : ℕ) (bytes rest : List ℕ) → run d start [] bytes ≡ fault Depth rest → (b : ℕ) × (bs : List ℕ) × (rest ≡ b ∷ bs) × ((b ≡ 91) ⊎ (b ≡ 123)) × ((f : Fault) → run (suc d) start [] bytes ≡ fault f rest → ⊥)

-- any other fault stays with more levels
abbrev pub OthersStay : Type 0
OthersStay = (d e : ℕ) (bytes rest : List ℕ) (f : Fault) → d ≤ e → (f ≡ Depth → ⊥) → run d start [] bytes ≡ fault f rest → run e start [] bytes ≡ fault f rest

-- a text denotes one value
abbrev pub OneValue : Type 0
OneValue = (d : ℕ) (t : List ℕ) (v w : JsonValue) → JsonText d t v → JsonText d t w → v ≡ w

-- what a text of the grammar denotes is proper
abbrev pub TextsDenoteProperValues : Type 0
TextsDenoteProperValues = (d : ℕ) (t : List ℕ) (v : JsonValue) → JsonText d t v → IsProper d v
