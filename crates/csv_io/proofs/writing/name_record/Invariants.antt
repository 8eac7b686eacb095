use Rattle.std.proofs.Common.{◌≡◌, [], take}
use Rattle.csv.specs.Records.{fields_of, partial_of}
use Rattle.csv_io.proofs.writing.name_record.Given as goal

abbrev pub invariant-loop-name : goal.invariant-loop-name
invariant-loop-name l = (fields_of l.cells ≡ take l.name-index l.name-items) × (partial_of l.cells ≡ [])
