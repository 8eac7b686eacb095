-- There is a reading of each text.
use Rattle.std.proofs.Common.{ℕ, ◌⊎◌, inl, inr, Result, Ok, Err}
use Rattle.std.specs.Prelude.{MatchResult}
use Rattle.io_core.specs.Contents.{Content}
use Rattle.json_read.specs.Faults.{IsFault}
use Rattle.json_values.specs.Grammar.{JsonText}
use Rattle.json_values.specs.Json.{JsonValue}
use Rattle.json_read.specs.declared.reader.Fault.{Fault}
use Rattle.json_read.specs.declared.reader.Fault.TheVariants as json
use Rattle.chain_model.specs.Outcome.{InputWhy, syntax, depth, utf8}
use Rattle.chain_model.specs.Sources.{IsJsonFault}
use Rattle.reading_laws.specs.Laws.{ReadingsExist}
use Rattle.reading_laws.proofs.JsonEnds.{text_or_fault}
use Rattle.run_chain.proofs.Refused.{refusals_exist}
use Rattle.reading_laws.proofs.Utf8Ends.{utf8_end}

abbrev JsonRead : Content → Type 0
JsonRead bytes = (r : Result JsonValue InputWhy) × MatchResult r (JsonText 64 bytes) (IsJsonFault bytes)

json_read : (bytes : Content) → ((v : JsonValue) × JsonText 64 bytes v) ⊎ ((f : Fault) × (at : ℕ) × IsFault 64 bytes f at) → JsonRead bytes
json_read bytes (inl (v, t)) = (Ok v, t)
json_read bytes (inr (json.Syntax, at, h)) = (Err (syntax at), h)
json_read bytes (inr (json.Depth, at, h)) = (Err (depth at), h)
json_read bytes (inr (json.Utf8, at, h)) = (Err (utf8 at), h)

json_of : (bytes : Content) → JsonRead bytes
json_of bytes = json_read bytes (text_or_fault 64 bytes)

pub readings_exist : ReadingsExist
readings_exist = (
  record { json = λ bytes. (json_of bytes).0; utf8_end = λ bytes. (utf8_end bytes).0; refusals = refusals_exist.0 },
  record { json = λ bytes. (json_of bytes).1; utf8 = λ bytes. (utf8_end bytes).1; expressions = refusals_exist.1 },
)
