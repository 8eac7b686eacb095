use Rattle.std.proofs.Common.{◌≡◌, ◌∙◌, List, None, Some, Err, ap, subst, sym}
use Rattle.std.specs.Prelude.{IfErr}
use Rattle.std.proofs.lemmas.Result.{IfErr-weaker, err_from_is_err_and}
use Rattle.table_terms.specs.Refusals.{first_refusal}
use Rattle.run_state.specs.Stops.{StopsFor}
use Rattle.run_state.specs.declared.state.HeldLayer.{HeldLayer}
use Rattle.run_state.proofs.Stops.{stops_second}
use Rattle.run_steps.specs.Refusals.{failed_together, refusal_together, unfit_together}
use Rattle.run_steps.proofs.commands.changed_together.Goals as goal

pub returns-clause-stops : goal.returns-clause-stops
returns-clause-stops c =
    let layers = c.args.state.layers.items in
    let command = c.args.command.now in
    let action = c.args.action.now in
    let fit : unfit_together layers command action ≡ None = subst (λ (seen : List HeldLayer). unfit_together seen command action ≡ None) c.deref.ensures.value (sym c.in_ok-check_together.ensures.exact) in
    IfErr-weaker c.together_changed.result (StopsFor (failed_together layers command action)) (StopsFor (refusal_together layers command action))
    (λ stop h. stops_second stop (unfit_together layers command action) (failed_together layers command action) fit h) c.together_changed.ensures.stops

pub returns-in_err-check_together-clause-stops : goal.returns-in_err-check_together-clause-stops
returns-in_err-check_together-clause-stops c =
    let layers = c.args.state.layers.items in
    let command = c.args.command.now in
    let action = c.args.action.now in
    let why = c.in_err-check_together.field-0.0 in
    let p = err_from_is_err_and c.from_residual.result c.from_residual.ensures.1 in
    let unfit : unfit_together layers command action ≡ Some why = subst (λ (seen : List HeldLayer). unfit_together seen command action ≡ Some why) c.deref.ensures.value (sym c.in_err-check_together.ensures.exact) in
    subst (λ r. IfErr r (StopsFor (refusal_together layers command action))) (sym (p.1 ∙ ap Err p.2)) (ap (λ told. first_refusal told (failed_together layers command action)) unfit)
