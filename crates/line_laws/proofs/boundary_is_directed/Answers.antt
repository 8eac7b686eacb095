-- The law is proved in `proofs/LinkSides.antt`.
use Rattle.line_laws.proofs.LinkSides.{boundary_is_directed}
use Rattle.line_laws.proofs.boundary_is_directed.Goals as goal

pub returns : goal.returns
returns c = record { holds = boundary_is_directed }
