use Rattle.std.proofs.Common.{◌≡◌, map, take, Some}
use Rattle.table_ops.specs.JoinColumns.{column_value}
use Rattle.table_ops.proofs.join.row_with.Given as goal

abbrev pub invariant-loop-column : goal.invariant-loop-column
invariant-loop-column l = l.cells ≡ map (column_value l.row (Some l.source)) (take l.column-index l.columns)
