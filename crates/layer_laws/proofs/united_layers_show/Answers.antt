-- The law is proved in `proofs/PolygonUnion.antt`.
use Rattle.layer_laws.proofs.PolygonUnion.{united_layers_show}
use Rattle.layer_laws.proofs.united_layers_show.Goals as goal

pub returns : goal.returns
returns c = record { holds = united_layers_show }
