use Rattle.std.proofs.Common.{◌≡◌, All, false, length, sym, subst, subst₂, take, true, ◌∙◌}
use Rattle.std.specs.List.{AllZip}
use Rattle.topo_io.specs.Arcs.{LayerIsBelow}
use Rattle.run_state.specs.Targets.{is_selected, targets}
use Rattle.run_texts.specs.Tracing.{IsTracedLayer}
use Rattle.run_state.proofs.TargetLemmas.{other_next, target_next}
use Rattle.run_plane.proofs.Growth.{zipped_on}
use Rattle.run_texts.proofs.Grown.{layers_grown}
use Rattle.run_texts.proofs.texts.arc_layers.Goals.{then-is_selected+in_ok-arc_layer_of+in_ok-push, else-is_selected}
use Rattle.run_texts.proofs.texts.arc_layers.Goals as goal

pub loop-held-preserved : goal.loop-held-preserved
loop-held-preserved c =
    let n = length c.args.plane.now.arcs in
    let traces = IsTracedLayer c.args.plane.now in
    let t = c.args.target.now in
    let all = c.args.all.now in
    let i = c.loop-held.held-index in
    let held = c.held-item.result in
    elim c.if-is_selected.branch [
      | then-is_selected+in_ok-arc_layer_of+in_ok-push w ↦
          let made = w.in_ok-arc_layer_of.field-0 in
          let pushed = w.layers-is ∙ w.in_ok-push.ensures.ok in
          let selected : is_selected t held ≡ true = cc in
          record {
            below = subst (All (LayerIsBelow n)) (sym pushed) (layers_grown n c.loop-held.layers made c.loop-held.invariant.below w.in_ok-arc_layer_of.ensures.below);
            each = subst₂ (AllZip traces) (sym (target_next t all i held c.loop-held-test.true c.held-item.is selected)) (sym pushed)
                (zipped_on traces (targets t (take i all)) c.loop-held.layers held.layer made c.loop-held.invariant.each w.in_ok-arc_layer_of.ensures.traced);
          }
      | else-is_selected w ↦
          let other : is_selected t held ≡ false = cc in
          record {
            below = subst (All (LayerIsBelow n)) (sym w.layers-is) c.loop-held.invariant.below;
            each = subst₂ (AllZip traces) (sym (other_next t all i held c.loop-held-test.true c.held-item.is other)) (sym w.layers-is) c.loop-held.invariant.each;
          }
    ]
