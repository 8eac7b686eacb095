-- The law is proved in `proofs/Layers.antt`.
use Rattle.picture_laws.proofs.Layers.{traced_layers_show}
use Rattle.picture_laws.proofs.traced_layers_show.Goals as goal

pub returns : goal.returns
returns c = record { holds = traced_layers_show }
