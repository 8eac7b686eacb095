use Rattle.std.proofs.Common.{◌≡◌, map, take}
use Rattle.table_ops.specs.JoinColumns.{join_of, kept_column}
use Rattle.table_ops.proofs.join_columns.kept_columns.Given as goal

abbrev pub invariant-loop-name : goal.invariant-loop-name
invariant-loop-name l = l.cells.items ≡ map (kept_column l.targets l.sources (join_of l.copied)) (take l.name-index l.name-items)
