use Rattle.run_steps.proofs.OnPlane.{names_on}
use Rattle.run_steps.proofs.outputs.held_outputs.Goals as goal

pub returns-clause-on : goal.returns-clause-on
returns-clause-on c = names_on c.args.base.now.plane.now _ c.in_ok-made.made.items c.in_ok-all_titled.field-0.items c.in_ok-all_titled.ensures.titled c.in_ok-made.ensures.on
