use Rattle.std.proofs.Common.{◌≡◌, take}
use Rattle.table_rows.specs.Splitting.{single_rows}
use Rattle.table_rows.proofs.split.single_rows.Given as goal

abbrev pub invariant-loop-n : goal.invariant-loop-n
invariant-loop-n l = l.items ≡ single_rows 0 (take l.n l.rows)
