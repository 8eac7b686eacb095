use Rattle.std.proofs.Common.{◌≡◌, map, take}
use Rattle.indexmap.specs.IndexMap.{get}
use Rattle.json_values.specs.Table.{RowValues}
use Rattle.json_values.specs.Value.{same}
use Rattle.table_ops.specs.JoinColumns.{column_value, row_found}
use Rattle.table_terms.specs.Names.{value_at}
use Rattle.table_ops.proofs.join.joined_rows.Given as goal

abbrev pub invariant-loop-row : goal.invariant-loop-row
invariant-loop-row l = l.rows ≡ map (λ (row : RowValues). map (column_value row (row_found l.source (get same l.firsts (value_at row l.key)))) l.columns) (take l.row-index l.row-items)
