use Rattle.std.proofs.Common.{◌≡◌, take}
use Rattle.table_rows.specs.Merge.{merged_rows}
use Rattle.table_rows.proofs.merge.merged_rows.Given as goal

abbrev pub invariant-loop-table : goal.invariant-loop-table
invariant-loop-table l = l.rows ≡ merged_rows l.names (take l.table-index l.tables)
