-- The law is proved in `proofs/Sources.antt`.
use Rattle.line_laws.proofs.Sources.{sides_of_boxes}
use Rattle.line_laws.proofs.sides_of_boxes.Goals as goal

pub returns : goal.returns
returns c = record { holds = sides_of_boxes }
