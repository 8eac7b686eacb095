-- The law is proved in `proofs/Empty.antt`.
use Rattle.layer_laws.proofs.Empty.{left_features_show}
use Rattle.layer_laws.proofs.left_features_show.Goals as goal

pub returns : goal.returns
returns c = record { holds = left_features_show }
