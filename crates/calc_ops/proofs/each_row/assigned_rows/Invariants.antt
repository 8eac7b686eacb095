use Rattle.std.proofs.Common.{◌≡◌, drop, length}
use Rattle.expr_lang.specs.Tree.{all_assigned}
use Rattle.json_values.specs.Table.{AreRows}
use Rattle.table_ops.proofs.Testing.{past}
use Rattle.calc_ops.specs.EachRow.{assigned_rows}
use Rattle.calc_ops.proofs.each_row.assigned_rows.Given as goal

abbrev pub invariant-loop-n : goal.invariant-loop-n
invariant-loop-n l = record {
  so_far : assigned_rows l.t.names (all_assigned l.a) 0 l.t.rows ≡ past l.rows (assigned_rows l.t.names (all_assigned l.a) l.n (drop l.n l.t.rows));
  each : length l.rows ≡ l.n;
  widths : AreRows (length l.targets.names) l.rows;
}
