use Rattle.std.proofs.Common.{[], ◌∷◌, length, sym, ap, subst, arith, length-append}
use Rattle.json_values.specs.Table.{AreRows}
use Rattle.run_shapes.specs.Cleaning.{ids_row}
use Rattle.run_state.proofs.Mapped.{mapped_on}
use Rattle.run_state.proofs.Rows.{rows_grown}
use Rattle.run_shapes.proofs.cleaning.holder_rows.Goals as goal

pub loop-item-preserved : goal.loop-item-preserved
loop-item-preserved c =
    let row = c.in_ok-holder_row.field-0 in
    let kept = c.loop-item.invariant in
    record {
      exact = mapped_on ids_row c.args.items.now c.loop-item.item-index c.item-item.result c.loop-item.rows c.push.new.self row c.loop-item-test.true c.item-item.is kept.exact c.in_ok-holder_row.ensures.exact c.in_ok-push.ensures.ok;
      count = omega (arith, ap length c.in_ok-push.ensures.ok, length-append c.loop-item.rows (row ∷ []), kept.count);
      widths = subst (AreRows 1) (sym c.in_ok-push.ensures.ok) (rows_grown 1 c.loop-item.rows row kept.widths c.in_ok-holder_row.ensures.width);
    }
