use Rattle.arc_table.proofs.Order.{along_missing}
use Rattle.arc_table.proofs.Numbered.{missing_of}
use Rattle.arc_table.proofs.numbering.number_step.Goals as goal

pub returns-in_default-clause-along : goal.returns-in_default-clause-along
returns-in_default-clause-along c = along_missing c.args.net.now c.args.numbering.now c.args.step (missing_of c.args.net.now.steps c.args.step c.place_after.result c.place_after.ensures.exact c.in_default.not-Some)
