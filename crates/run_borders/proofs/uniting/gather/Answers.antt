use Rattle.std.proofs.Common.{◌∙◌, ap, arith, length, sym}
use Rattle.run_state.specs.FaceSets.{sets_in}
use Rattle.run_borders.proofs.UnitedLayers.{gathered_on, gathered_off}
use Rattle.run_borders.proofs.uniting.gather.Goals.{then-is_selected+in_ok-copy_table+in_ok-push+in_ok-sets_of+in_ok-push-2, else-is_selected}
use Rattle.run_borders.proofs.uniting.gather.Goals as goal

pub loop-held-preserved : goal.loop-held-preserved
loop-held-preserved c =
    let xs = c.args.layers.now in
    let t = c.args.target.now in
    let item = c.held-item.result in
    let kept = c.loop-held.invariant in
    elim c.if-is_selected.branch [
      | then-is_selected+in_ok-copy_table+in_ok-push+in_ok-sets_of+in_ok-push-2 w ↦
          gathered_on t xs c.loop-held.held-index item c.loop-held.tables c.if-is_selected.tables c.loop-held.sets c.if-is_selected.sets w.in_ok-copy_table.field-0 w.in_ok-sets_of.field-0
          c.loop-held-test.true c.held-item.is (sym c.is_selected.ensures.exact ∙ w.if-is_selected.true) (w.tables-is ∙ w.in_ok-push.ensures.ok) (w.sets-is ∙ w.in_ok-push-2.ensures.ok)
          w.in_ok-copy_table.ensures.copied (w.in_ok-sets_of.ensures.exact ∙ ap sets_in w.deref.ensures.value)
          (omega (arith, w.in_ok-copy_table.ensures.count, w.in_ok-sets_of.ensures.count, ap length w.deref.ensures.value, item.layer.each)) kept
      | else-is_selected w ↦
          gathered_off t xs c.loop-held.held-index item c.loop-held.tables c.if-is_selected.tables c.loop-held.sets c.if-is_selected.sets
          c.loop-held-test.true c.held-item.is (sym c.is_selected.ensures.exact ∙ w.if-is_selected.false) w.tables-is w.sets-is kept
    ]
