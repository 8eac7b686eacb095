use Rattle.std.proofs.Common.{◌≡◌, ◌∙◌, sym, ap, subst, ℕ, ◌+◌, List, [], length, slice_get}
use Rattle.std.proofs.lemmas.List.{length-append}
use Rattle.std.proofs.lemmas.Option.{get_or_from_slice_get}
use Rattle.std.proofs.lemmas.Result.{on_ok_weaker}
use Rattle.json_values.specs.Table.{RowValues, AreRows}
use Rattle.table_rows.specs.Rows.{row_at}
use Rattle.table_rows.proofs.TakenRows.{long_at}
use Rattle.union_ops.proofs.united_tables.append_row.Goals as goal

pub returns-clause-width : goal.returns-clause-width
returns-clause-width c =
    let table = c.args.table.now in
    let n = c.args.n in
    let old = c.args.out.now in
    let row = c.in-Some.row.now in
    let is : row ≡ row_at table.rows n =
    sym (get_or_from_slice_get table.rows n row [] (ap (λ (rows : List RowValues). slice_get rows n) (sym c.rows.ensures.rows) ∙ sym c.in-Some.ensures.lookup)) in
    let long : length row ≡ length table.names =
    ap (λ (r : RowValues). length r) is ∙ long_at (length table.names) table.rows n (subst (AreRows (length table.names)) c.rows.ensures.rows c.rows.ensures.widths) c.requires.number in
    on_ok_weaker c.append_values.result (λ e. ap (λ (r : RowValues). length r) e ∙ length-append old row ∙ ap (λ (k : ℕ). length old + k) long) c.append_values.ensures.appended
