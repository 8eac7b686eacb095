use Rattle.std.proofs.Common.{◌≡◌, drop, length}
use Rattle.expr_lang.specs.Tree.{tree_of}
use Rattle.table_ops.proofs.Testing.{past}
use Rattle.calc_ops.specs.Keys.{keys_of, keys_from}
use Rattle.calc_ops.proofs.keys.keys_of.Given as goal

abbrev pub invariant-loop-n : goal.invariant-loop-n
invariant-loop-n l = record {
  so_far : keys_of l.t (tree_of l.e) ≡ past l.keys.items (keys_from l.t.names (tree_of l.e) l.n (drop l.n l.t.rows));
  each : length l.keys.items ≡ l.n;
}
