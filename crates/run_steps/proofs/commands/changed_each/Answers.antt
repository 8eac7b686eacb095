use Rattle.std.proofs.Common.{◌≡◌, List, None, Option, subst, sym}
use Rattle.std.proofs.lemmas.Result.{IfOk-weaker, IfErr-weaker}
use Rattle.run_state.specs.Origins.{base_of}
use Rattle.run_state.specs.Stops.{StopsAs}
use Rattle.run_state.specs.declared.refusal.RefuseWhy.{RefuseWhy}
use Rattle.run_state.specs.declared.state.HeldLayer.{HeldLayer}
use Rattle.run_steps.specs.Refusals.{FailsEach, RefusesEach, unfit_each}
use Rattle.run_steps.proofs.Refusals.{stops_after}
use Rattle.run_steps.proofs.commands.changed_each.Goals as goal

pub returns-clause-accepted : goal.returns-clause-accepted
returns-clause-accepted c =
    let base = base_of c.args.base.now in
    let layers = c.args.state.layers.items in
    let command = c.args.command.now in
    let action = c.args.action.now in
    let fit : unfit_each base layers command action ≡ None = subst (λ (seen : List HeldLayer). unfit_each base seen command action ≡ None) c.deref.ensures.value (sym c.in_ok-check_each.ensures.exact) in
    IfOk-weaker c.each_changed.result (λ after. FailsEach base layers command action None) (λ after. RefusesEach base layers command action None) (λ after h. (fit, h)) c.each_changed.ensures.accepted

pub returns-clause-stops : goal.returns-clause-stops
returns-clause-stops c =
    let base = base_of c.args.base.now in
    let layers = c.args.state.layers.items in
    let command = c.args.command.now in
    let action = c.args.action.now in
    let fit : unfit_each base layers command action ≡ None = subst (λ (seen : List HeldLayer). unfit_each base seen command action ≡ None) c.deref.ensures.value (sym c.in_ok-check_each.ensures.exact) in
    IfErr-weaker c.each_changed.result (StopsAs (FailsEach base layers command action)) (StopsAs (RefusesEach base layers command action))
    (λ stop h. stops_after (λ (told : Option RefuseWhy). unfit_each base layers command action ≡ told) (FailsEach base layers command action) stop fit h) c.each_changed.ensures.stops
