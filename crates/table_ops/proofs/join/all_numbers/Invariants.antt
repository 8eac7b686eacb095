use Rattle.std.proofs.Common.{◌≡◌, true, take}
use Rattle.json_values.specs.Table.{RowValues}
use Rattle.lists.specs.Lists.{numbers_where}
use Rattle.table_ops.proofs.join.all_numbers.Given as goal

abbrev pub invariant-loop-n : goal.invariant-loop-n
invariant-loop-n l = l.numbers ≡ numbers_where (λ (row : RowValues). true) (take l.n l.rows)
