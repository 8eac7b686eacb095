use Rattle.std.proofs.Common.{sym, ap, ◌∙◌}
use Rattle.csv.specs.Records.{fields_of}
use Rattle.csv_io.specs.CsvCells.{cell_at}
use Rattle.csv_io.specs.CsvTable.{is_number_or_empty}
use Rattle.csv_io.proofs.CsvTable.{bad_column}
use Rattle.csv_io.proofs.columns.has_numbers.Goals as goal

pub returns-else-is_number_or_empty : goal.returns-else-is_number_or_empty
returns-else-is_number_or_empty c = record {
  exact = sym (bad_column c.args.rows.now c.args.column c.loop-row.row-index c.row-item.result c.loop-row-test.true
      (sym (λ i. is_number_or_empty (cell_at (fields_of (c.row-item.is i)) c.args.column)) ∙ sym (ap is_number_or_empty c.cell_of-cell.ensures.lent)
      ∙ sym c.is_number_or_empty.ensures.exact ∙ c.if-is_number_or_empty.false));
}
