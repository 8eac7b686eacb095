-- What a fault says of the bytes.
use Rattle.std.specs.Prelude.{ℕ, ◌≡◌, List, [], drop}
use Rattle.json_values.specs.Grammar.{JsonText, LongestViable}
use Rattle.json_read.specs.Machine.{run, fault, start}
use Rattle.json_values.specs.Json.{JsonValue}
use Rattle.json_read.specs.declared.fault.JsonFault.{JsonFault}
use Rattle.json_read.specs.declared.fault.JsonFault.TheVariants as json
use Rattle.json_read.specs.declared.reader.Fault.{Fault}
use Rattle.json_read.specs.declared.reader.Fault.TheVariants.{Syntax, Depth, Utf8}

-- The bytes are no text with at most d levels; the first `at` of them are the longest prefix that begins
-- one; and this is the fault of the machine there.
pub record IsFault (d : ℕ) (bytes : List ℕ) (kind : Fault) (at : ℕ) : Type 0 where
  pub refused : (v : JsonValue) → JsonText d bytes v → ⊥
  pub place : LongestViable d bytes at
  pub kind_there : run d start [] bytes ≡ fault kind (drop at bytes)

abbrev pub FaultFits : ℕ → List ℕ → JsonFault → Type 0
FaultFits d bytes (json.Syntax at) = IsFault d bytes Syntax at
FaultFits d bytes (json.Depth at) = IsFault d bytes Depth at
FaultFits d bytes (json.Utf8 at) = IsFault d bytes Utf8 at
FaultFits d bytes json.Memory = Unit {0}

abbrev pub fault_of : Fault → ℕ → JsonFault
fault_of Syntax at = json.Syntax at
fault_of Depth at = json.Depth at
fault_of Utf8 at = json.Utf8 at
