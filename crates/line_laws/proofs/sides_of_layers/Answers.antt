-- The law is proved in `proofs/Sources.antt`.
use Rattle.line_laws.proofs.Sources.{sides_of_layers}
use Rattle.line_laws.proofs.sides_of_layers.Goals as goal

pub returns : goal.returns
returns c = record { holds = sides_of_layers }
