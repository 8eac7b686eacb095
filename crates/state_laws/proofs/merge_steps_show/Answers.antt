-- The law is proved in `proofs/MergeStep.antt`.
use Rattle.state_laws.proofs.MergeStep.{merge_steps_show}
use Rattle.state_laws.proofs.merge_steps_show.Goals as goal

pub returns : goal.returns
returns c = record { holds = merge_steps_show }
