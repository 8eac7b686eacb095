use Rattle.std.proofs.Common.{◌≡◌, length, map, take}
use Rattle.csv.specs.Records.{fields_of}
use Rattle.csv_io.specs.CsvTable.{number_columns}
use Rattle.csv_io.proofs.columns.number_columns.Given as goal

abbrev pub invariant-loop-name : goal.invariant-loop-name
invariant-loop-name l =
    (length l.numbers.items ≡ l.name-index)
    × (l.numbers.items ≡ number_columns l.texts (take l.name-index l.name-items) (map fields_of l.rows))
