use Rattle.std.proofs.Common.{◌≡◌, map, take}
use Rattle.csv.specs.Records.{fields_of}
use Rattle.csv_io.specs.CsvTable.{row_values}
use Rattle.csv_io.proofs.reading.rows_of.Given as goal

abbrev pub invariant-loop-row : goal.invariant-loop-row
invariant-loop-row l = l.out ≡ map (row_values l.numbers) (map fields_of (take l.row-index l.rows))
