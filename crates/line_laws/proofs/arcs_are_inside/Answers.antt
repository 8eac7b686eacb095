-- The law is proved in `proofs/LinkSides.antt`.
use Rattle.line_laws.proofs.LinkSides.{arcs_are_inside}
use Rattle.line_laws.proofs.arcs_are_inside.Goals as goal

pub returns : goal.returns
returns c = record { holds = arcs_are_inside }
