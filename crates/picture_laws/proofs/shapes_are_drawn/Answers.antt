-- The law is proved in `proofs/Shapes.antt`.
use Rattle.picture_laws.proofs.Shapes.{shapes_are_drawn}
use Rattle.picture_laws.proofs.shapes_are_drawn.Goals as goal

pub returns : goal.returns
returns c = record { holds = shapes_are_drawn }
