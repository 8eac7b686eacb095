use Rattle.std.proofs.Common.{[], ◌∷◌, length, sym, ap, subst, arith, length-append}
use Rattle.json_values.specs.Table.{AreRows}
use Rattle.run_borders.specs.Borders.{ranked_row}
use Rattle.run_state.proofs.Mapped.{mapped_on}
use Rattle.run_state.proofs.Rows.{rows_grown}
use Rattle.run_borders.proofs.borders.ranked_rows.Goals as goal

pub loop-sided-preserved : goal.loop-sided-preserved
loop-sided-preserved c =
    let row = c.in_ok-ranked_row.field-0 in
    let kept = c.loop-sided.invariant in
    record {
      exact = mapped_on (ranked_row c.args.listed.now) c.args.arcs.now c.loop-sided.sided-index c.sided-item.result c.loop-sided.rows c.push.new.self row c.loop-sided-test.true c.sided-item.is kept.exact c.in_ok-ranked_row.ensures.exact c.in_ok-push.ensures.ok;
      count = omega (arith, ap length c.in_ok-push.ensures.ok, length-append c.loop-sided.rows (row ∷ []), kept.count);
      widths = subst (AreRows 2) (sym c.in_ok-push.ensures.ok) (rows_grown 2 c.loop-sided.rows row kept.widths c.in_ok-ranked_row.ensures.width);
    }
