-- The law is proved in `proofs/Targeting.antt`.
use Rattle.layer_laws.proofs.Targeting.{origins_show}
use Rattle.layer_laws.proofs.origins_show.Goals as goal

pub returns : goal.returns
returns c = record { holds = origins_show }
