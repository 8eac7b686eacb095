-- The law is proved in `proofs/UnionStep.antt`.
use Rattle.state_laws.proofs.UnionStep.{union_steps_show}
use Rattle.state_laws.proofs.union_steps_show.Goals as goal

pub returns : goal.returns
returns c = record { holds = union_steps_show }
