-- The law is proved in `proofs/SourcePoints.antt`.
use Rattle.line_laws.proofs.SourcePoints.{vertices_inside_layers}
use Rattle.line_laws.proofs.vertices_inside_layers.Goals as goal

pub returns : goal.returns
returns c = record { holds = vertices_inside_layers }
