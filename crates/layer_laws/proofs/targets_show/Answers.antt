-- The law is proved in `proofs/Targeting.antt`.
use Rattle.layer_laws.proofs.Targeting.{targets_show}
use Rattle.layer_laws.proofs.targets_show.Goals as goal

pub returns : goal.returns
returns c = record { holds = targets_show }
