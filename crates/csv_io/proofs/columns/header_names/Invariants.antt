use Rattle.std.proofs.Common.{◌≡◌, [], take, drop}
use Rattle.std.specs.List.{IsDistinct}
use Rattle.std.specs.Str.{bytes_eq}
use Rattle.csv.specs.Records.{fields_of}
use Rattle.csv_io.specs.CsvTable.{repeated_column}
use Rattle.csv_io.proofs.columns.header_names.Given as goal

abbrev pub invariant-loop-column : goal.invariant-loop-column
invariant-loop-column l =
    (l.names ≡ l.seen) × IsDistinct bytes_eq l.seen × (l.names ≡ take l.column (fields_of l.header))
    × (repeated_column [] 0 (fields_of l.header) ≡ repeated_column l.names l.column (drop l.column (fields_of l.header)))
