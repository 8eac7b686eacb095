use Rattle.std.proofs.Common.{◌∙◌, ap, sym, subst, arith, ℕ, ◌+◌, length, ◌∷◌, []}
use Rattle.std.proofs.lemmas.Bool.Decides.{nat_tests}
use Rattle.std.proofs.lemmas.List.{length_push}
use Rattle.expr_lang.specs.Tree.{all_assigned}
use Rattle.json_values.specs.Table.{AreRows}
use Rattle.table_rows.proofs.Cells.{rows_long-append}
use Rattle.calc_ops.proofs.EachLemmas.{rows_step}
use Rattle.calc_ops.proofs.each_row.assigned_rows.Goals as goal

pub loop-n-preserved : goal.loop-n-preserved
loop-n-preserved c = record {
  so_far = c.loop-n.invariant.so_far ∙ rows_step c.args.t.now.names (all_assigned c.args.a.now) c.args.t.now.rows c.loop-n.n c.loop-n.rows c.in_ok-row.row c.push.new.self (grind (arith, nat_tests, c.loop-n-test.true, c.loop-n.auto.n-end)) c.in_ok-row.ensures.exact c.in_ok-push.ensures.ok;
  each = ap length c.in_ok-push.ensures.ok ∙ length_push c.loop-n.rows c.in_ok-row.row ∙ ap (λ (k : ℕ). k + 1) c.loop-n.invariant.each;
  widths = subst (AreRows (length c.args.targets.now.names)) (sym c.in_ok-push.ensures.ok) (rows_long-append (length c.args.targets.now.names) c.loop-n.rows (c.in_ok-row.row ∷ []) c.loop-n.invariant.widths (c.in_ok-row.ensures.width, tt));
}
