-- The law is proved in `proofs/Targeting.antt`.
use Rattle.layer_laws.proofs.Targeting.{one_layer_shows}
use Rattle.layer_laws.proofs.one_layer_shows.Goals as goal

pub returns : goal.returns
returns c = record { holds = one_layer_shows }
