use Rattle.std.proofs.Common.{◌≡◌, ◌≤◌, map, drop}
use Rattle.csv.specs.Records.{fields_of}
use Rattle.csv_io.specs.CsvTable.{refused_row}
use Rattle.csv_io.proofs.columns.check_rows.Given as goal

abbrev pub invariant-loop-row : goal.invariant-loop-row
invariant-loop-row l =
    (l.number ≡ l.row-index) × (l.number ≤ l.room.rows)
    × (refused_row l.room.rows l.width 0 (map fields_of l.rows) ≡ refused_row l.room.rows l.width l.number (map fields_of (drop l.row-index l.rows)))
