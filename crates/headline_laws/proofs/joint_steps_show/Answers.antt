-- The law is proved in `proofs/Steps.antt`.
use Rattle.headline_laws.proofs.Steps.{joint_step}
use Rattle.headline_laws.proofs.joint_steps_show.Goals as goal

pub returns : goal.returns
returns c = record { holds = joint_step }
