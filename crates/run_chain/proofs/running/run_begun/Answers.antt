use Rattle.std.proofs.Common.{sym, subst}
use Rattle.run_state.specs.OnPlane.{AreHeldOn}
use Rattle.run_state.proofs.OnPlane.{first_on}
use Rattle.run_chain.proofs.running.run_begun.Goals as goal

pub run_commands-requires-clause-on : goal.run_commands-requires-clause-on
run_commands-requires-clause-on g c =
    let plane = c.args.begun.plane in
    subst (AreHeldOn plane) (sym c.in-Ok.ensures.held) (first_on plane c.args.begun.layers.items c.requires.on)
