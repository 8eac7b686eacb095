use Rattle.std.proofs.Common.{ℕ, List, refl, ap, ◌∙◌}
use Rattle.std.specs.Prelude.{Err}
use Rattle.std.proofs.lemmas.Result.{err_from_is_err_and}
use Rattle.csv_io.proofs.CsvReading.{gives_fault, header_refused, row_refused, rows_wide, table_read}
use Rattle.csv_io.proofs.reading.table_of.Goals as goal

pub returns-in_err-names : goal.returns-in_err-names
returns-in_err-names c =
    let p = err_from_is_err_and c.from_residual.result c.from_residual.ensures.1 in
    record {
      exact = gives_fault (List (List ℕ)) _ c.in_err-names.field-0.0 _ _ (p.1 ∙ ap Err p.2) c.in_err-names.ensures.exact
          (λ why e. header_refused c.args.string_fields.now c.args.room.rows c.args.records.now c.header-item.result why c.in-len1-up.len_at_least c.header-item.is e);
    }

pub returns-in_err-check_rows : goal.returns-in_err-check_rows
returns-in_err-check_rows c =
    let p = err_from_is_err_and c.from_residual-in_err-check_rows.result c.from_residual-in_err-check_rows.ensures.1 in
    record {
      exact = gives_fault (Unit {0}) _ c.in_err-check_rows.field-0.0 _ _ (p.1 ∙ ap Err p.2) c.in_err-check_rows.ensures.exact
          (λ why e. row_refused c.args.string_fields.now c.args.room.rows c.len.result c.args.records.now _ c.header-item.result why c.in-len1-up.len_at_least refl c.header-item.is c.in_ok-names.ensures.exact c.len.ensures e);
    }

pub new-requires-clause-widths : goal.new-requires-clause-widths
new-requires-clause-widths c = rows_wide c.args.string_fields.now c.in_ok-names.names _ c.in_ok-rows.rows c.in_ok-rows.ensures.exact

pub returns : goal.returns
returns c = record {
  exact = table_read c.args.string_fields.now c.args.room.rows c.len.result c.args.records.now _ c.header-item.result c.in_ok-names.names c.in_ok-rows.rows c.new.result
      c.in-len1-up.len_at_least refl c.header-item.is c.in_ok-names.ensures.names c.in_ok-names.ensures.exact c.len.ensures c.in_ok-check_rows.ensures.exact
      c.in_ok-rows.ensures.exact c.new.ensures.names c.new.ensures.rows;
}
