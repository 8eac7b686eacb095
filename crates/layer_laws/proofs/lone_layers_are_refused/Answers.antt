-- The law is proved in `proofs/PolygonUnion.antt`.
use Rattle.layer_laws.proofs.PolygonUnion.{lone_layers_are_refused}
use Rattle.layer_laws.proofs.lone_layers_are_refused.Goals as goal

pub returns : goal.returns
returns c = record { holds = lone_layers_are_refused }
