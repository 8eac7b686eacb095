use Rattle.std.proofs.Common.{◌≡◌, length, map, subst, sym, None, rules}
use Rattle.std.proofs.lemmas.Result.{IfOk-weaker, IfErr-weaker}
use Rattle.run_state.specs.OnPlane.{AreHeldOn}
use Rattle.run_state.specs.Origins.{base_of}
use Rattle.run_state.specs.Stops.{StopsAs, StopsFor}
use Rattle.run_state.specs.Targets.{placed}
use Rattle.run_state.proofs.OnPlane.{placed_on}
use Rattle.run_steps.specs.Refusals.{FailsEach, refused_count}
use Rattle.run_steps.proofs.AtWork.{each_goes, each_stopped, each_stops}
use Rattle.run_steps.proofs.commands.each_changed.Goals as goal

pub returns-clause-accepted : goal.returns-clause-accepted
returns-clause-accepted c =
    let base = base_of c.args.base.now in
    let layers = c.args.state.layers.items in
    let command = c.args.command.now in
    let outputs = map (λ out. out.items) c.in_ok-outputs.outputs.items in
    IfOk-weaker c.put_out.result (λ after. refused_count (length (placed command layers outputs)) ≡ None) (λ after. FailsEach base layers command c.args.action.now None)
    (λ after few. each_goes base layers _ command outputs c.deref.ensures.value c.args.action.now c.in_ok-outputs.ensures.puts c.in_ok-outputs.ensures.accepted few) c.put_out.ensures.accepted

pub returns-clause-stops : goal.returns-clause-stops
returns-clause-stops c =
    let base = base_of c.args.base.now in
    let layers = c.args.state.layers.items in
    let command = c.args.command.now in
    let outputs = map (λ out. out.items) c.in_ok-outputs.outputs.items in
    IfErr-weaker c.put_out.result (StopsFor (refused_count (length (placed command layers outputs)))) (StopsAs (FailsEach base layers command c.args.action.now))
    (λ stop h. each_stops base layers _ command outputs c.deref.ensures.value c.args.action.now c.in_ok-outputs.ensures.puts stop c.in_ok-outputs.ensures.accepted h) c.put_out.ensures.stops

pub returns-in_err-outputs-clause-stops : goal.returns-in_err-outputs-clause-stops
returns-in_err-outputs-clause-stops c =
    let stops = each_stopped (base_of c.args.base.now) c.args.state.layers.items _ c.args.command.now c.args.action.now c.in_err-outputs.field-0.0 c.deref.ensures.value c.in_err-outputs.ensures.stops in
    search rules

pub returns-clause-on : goal.returns-clause-on
returns-clause-on c =
    let plane = c.args.base.now.plane.now in
    let layers = c.args.state.layers.items in
    let command = c.args.command.now in
    let outputs = map (λ out. out.items) c.in_ok-outputs.outputs.items in
    IfOk-weaker c.put_out.result (λ after. after.layers.items ≡ placed command layers outputs) (λ after. AreHeldOn plane after.layers.items)
    (λ after is. subst (AreHeldOn plane) (sym is) (placed_on plane command layers outputs c.requires.on c.in_ok-outputs.ensures.on)) c.put_out.ensures.placed
