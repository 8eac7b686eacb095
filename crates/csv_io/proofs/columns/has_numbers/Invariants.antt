use Rattle.std.proofs.Common.{◌≡◌, true, not, map, take}
use Rattle.std.specs.List.{list_all, list_any}
use Rattle.csv.specs.Records.{fields_of}
use Rattle.table_terms.specs.Names.{Text}
use Rattle.csv_io.specs.CsvCells.{is_empty_cell}
use Rattle.csv_io.specs.CsvTable.{column_cells, is_number_or_empty}
use Rattle.csv_io.proofs.columns.has_numbers.Given as goal

abbrev pub invariant-loop-row : goal.invariant-loop-row
invariant-loop-row l =
    (list_all is_number_or_empty (column_cells (map fields_of (take l.row-index l.rows)) l.column) ≡ true)
    × (l.some ≡ list_any (λ (cell : Text). not (is_empty_cell cell)) (column_cells (map fields_of (take l.row-index l.rows)) l.column))
