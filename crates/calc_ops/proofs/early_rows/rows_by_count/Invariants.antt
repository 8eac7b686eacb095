use Rattle.std.proofs.Common.{◌≡◌, ◌<◌, All, length}
use Rattle.std.specs.Prelude.{count_by, min, not}
use Rattle.std.specs.Bool.{beq}
use Rattle.lists.specs.Lists.{numbers_where}
use Rattle.json_values.specs.Value.{same}
use Rattle.json_values.specs.declared.value.Value.{Value}
use Rattle.calc_ops.specs.EarlyRows.{are_early, count_in}
use Rattle.calc_ops.proofs.early_rows.rows_by_count.Given as goal

abbrev pub invariant-loop-key : goal.invariant-loop-key
invariant-loop-key l = record {
  number : l.n ≡ length l.yielded;
  exact : l.rows ≡ numbers_where (beq (not l.invert)) (are_early l.most l.yielded);
  within : All (λ k. k < l.n) l.rows;
  counts : (k : Value) → count_in l.counts k ≡ min (count_by (same k) l.yielded) l.most;
}
