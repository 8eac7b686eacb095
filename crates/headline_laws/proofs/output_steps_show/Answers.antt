-- The law is proved in `proofs/OutputSteps.antt`.
use Rattle.headline_laws.proofs.OutputSteps.{output_steps_show}
use Rattle.headline_laws.proofs.output_steps_show.Goals as goal

pub returns : goal.returns
returns c = record { holds = output_steps_show }
