-- The law is proved in `proofs/Shapes.antt`.
use Rattle.picture_laws.proofs.Shapes.{regions_are_drawn}
use Rattle.picture_laws.proofs.regions_are_drawn.Goals as goal

pub returns : goal.returns
returns c = record { holds = regions_are_drawn }
