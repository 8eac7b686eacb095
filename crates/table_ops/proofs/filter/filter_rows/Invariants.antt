use Rattle.std.proofs.Common.{◌≡◌, ◌<◌, All, drop, length}
use Rattle.std.specs.Prelude.{not}
use Rattle.expr_lang.specs.Tree.{tree_of}
use Rattle.table_ops.specs.Filtering.{filter_rows, tests_from}
use Rattle.table_ops.proofs.Testing.{kept_with}
use Rattle.table_ops.proofs.filter.filter_rows.Given as goal

abbrev pub invariant-loop-n : goal.invariant-loop-n
invariant-loop-n l = record {
  exact : filter_rows l.t (tree_of l.e) (not l.invert) ≡ kept_with (not l.invert) l.kept l.n (tests_from l.t.names (tree_of l.e) l.n (drop l.n l.t.rows));
  within : All (λ k. k < length l.t.rows) l.kept;
}
