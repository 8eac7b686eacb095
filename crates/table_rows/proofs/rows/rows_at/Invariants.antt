use Rattle.std.proofs.Common.{◌≡◌, take, map}
use Rattle.table_rows.specs.Rows.{row_at}
use Rattle.table_rows.proofs.rows.rows_at.Given as goal

abbrev pub invariant-loop-number : goal.invariant-loop-number
invariant-loop-number l = l.taken ≡ map (row_at l.rows) (take l.number-index l.numbers)
