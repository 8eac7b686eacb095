-- The law is proved in `proofs/LinkSides.antt`.
use Rattle.line_laws.proofs.LinkSides.{sides_of_arcs}
use Rattle.line_laws.proofs.sides_of_arcs.Goals as goal

pub returns : goal.returns
returns c = record { holds = sides_of_arcs }
