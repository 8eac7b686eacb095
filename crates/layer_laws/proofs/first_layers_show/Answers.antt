-- The law is proved in `proofs/Targeting.antt`.
use Rattle.layer_laws.proofs.Targeting.{first_layers_show}
use Rattle.layer_laws.proofs.first_layers_show.Goals as goal

pub returns : goal.returns
returns c = record { holds = first_layers_show }
