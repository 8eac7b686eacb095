use Rattle.std.proofs.Common.{◌≡◌, drop}
use Rattle.std.specs.Prelude.{pos}
use Rattle.table_rows.specs.Grouping.{column_sum}
use Rattle.table_rows.proofs.group_sums.column_sum.Given as goal

abbrev pub invariant-loop-number : goal.invariant-loop-number
invariant-loop-number l = column_sum l.rows l.place (pos 0) l.number-items ≡ column_sum l.rows l.place l.total (drop l.number-index l.number-items)
