-- The law is proved in `proofs/SourcePoints.antt`.
use Rattle.line_laws.proofs.SourcePoints.{points_are_of_layers}
use Rattle.line_laws.proofs.points_are_of_layers.Goals as goal

pub returns : goal.returns
returns c = record { holds = points_are_of_layers }
