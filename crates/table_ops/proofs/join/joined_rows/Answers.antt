use Rattle.std.proofs.Common.{◌++◌, ◌∷◌, [], Option, map, ap, sym, ◌∙◌}
use Rattle.std.proofs.lemmas.List.{map_more}
use Rattle.indexmap.specs.IndexMap.{get}
use Rattle.json_values.specs.Table.{RowValues}
use Rattle.json_values.specs.Value.{same}
use Rattle.table_ops.specs.JoinColumns.{column_value, row_found}
use Rattle.table_terms.specs.Names.{value_at}
use Rattle.table_ops.proofs.join.joined_rows.Goals as goal

pub loop-row-preserved : goal.loop-row-preserved
loop-row-preserved c =
    let items = c.as_slice-row-items.result.now in
    let i = c.loop-row.row-index in
    let row = c.row-item.result in
    let columns = c.args.columns.now in
    let joined : RowValues → RowValues = λ (r : RowValues). map (column_value r (row_found c.args.source.now (get same c.args.firsts.now (value_at r c.args.key)))) columns in
    let cells = c.in_ok-copied_row.ensures.cells ∙ ap (λ (o : Option RowValues). map (column_value row o) columns) c.in_ok-matched.ensures.matched ∙ ap joined c.row-item.is in
    c.in_ok-push.ensures.ok ∙ (λ j. c.loop-row.invariant j ++ cells j ∷ []) ∙ sym (map_more joined items i row c.loop-row-test.true)
