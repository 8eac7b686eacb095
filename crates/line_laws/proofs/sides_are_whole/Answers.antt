-- The law is proved in `proofs/LinkSides.antt`.
use Rattle.line_laws.proofs.LinkSides.{sides_are_whole}
use Rattle.line_laws.proofs.sides_are_whole.Goals as goal

pub returns : goal.returns
returns c = record { holds = sides_are_whole }
