use Rattle.std.proofs.Common.{◌≡◌, [], take}
use Rattle.csv.specs.Records.{fields_of, partial_of}
use Rattle.csv_io.specs.CsvText.{row_cells}
use Rattle.csv_io.proofs.writing.row_record.Given as goal

abbrev pub invariant-loop-value : goal.invariant-loop-value
invariant-loop-value l = (fields_of l.cells ≡ row_cells (take l.value-index l.value-items)) × (partial_of l.cells ≡ [])
