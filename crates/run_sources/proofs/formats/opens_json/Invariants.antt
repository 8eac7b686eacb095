use Rattle.std.proofs.Common.{◌≡◌, drop}
use Rattle.run_sources.specs.Formats.{opens_json}
use Rattle.run_sources.proofs.formats.opens_json.Given as goal

-- what was passed is white
abbrev pub invariant-loop-byte : goal.invariant-loop-byte
invariant-loop-byte l = opens_json l.bytes ≡ opens_json (drop l.byte-index l.bytes)
