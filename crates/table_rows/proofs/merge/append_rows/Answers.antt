use Rattle.std.proofs.Common.{◌≡◌, ◌∙◌, ap, map, ◌++◌}
use Rattle.std.proofs.lemmas.Result.{on_ok_weaker}
use Rattle.table_rows.specs.Rows.{picked}
use Rattle.table_rows.specs.Columns.{cells}
use Rattle.table_rows.proofs.Cells.{picked_cells}
use Rattle.table_rows.proofs.merge.append_rows.Goals as goal

pub returns : goal.returns
returns c =
    let t = c.args.table.now in
    let names = c.args.names.now in
    let rows : map (picked c.as_slice.result.now) c.rows.result.now ≡ map (cells t.names names) t.rows =
    (λ i. map (picked ((c.as_slice.ensures.value ∙ c.in_ok-places.ensures.places) i)) (c.rows.ensures.rows i))
    ∙ picked_cells t.names names t.rows in
    record { rows = on_ok_weaker c.append_picked_rows.result (λ e. e ∙ ap (λ r. c.args.rows.now ++ r) rows) c.append_picked_rows.ensures.rows }
