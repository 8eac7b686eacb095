-- The law is proved in `proofs/Taking.antt`.
use Rattle.layer_laws.proofs.Taking.{taken_features_show}
use Rattle.layer_laws.proofs.taken_features_show.Goals as goal

pub returns : goal.returns
returns c = record { holds = taken_features_show }
