use Rattle.std.proofs.Common.{◌≡◌, take}
use Rattle.csv.specs.Records.{fields_of}
use Rattle.csv_io.specs.CsvTable.{row_values}
use Rattle.csv_io.proofs.reading.row_of.Given as goal

abbrev pub invariant-loop-i : goal.invariant-loop-i
invariant-loop-i l = l.row ≡ row_values (take l.i l.numbers) (fields_of l.cells)
