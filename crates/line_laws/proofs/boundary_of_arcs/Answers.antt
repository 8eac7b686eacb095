-- The law is proved in `proofs/LinkSides.antt`.
use Rattle.line_laws.proofs.LinkSides.{boundary_of_arcs}
use Rattle.line_laws.proofs.boundary_of_arcs.Goals as goal

pub returns : goal.returns
returns c = record { holds = boundary_of_arcs }
