-- The law is proved in `proofs/LinkedArcs.antt`.
use Rattle.line_laws.proofs.LinkedArcs.{lines_are_dissolved}
use Rattle.line_laws.proofs.lines_are_dissolved.Goals as goal

pub returns : goal.returns
returns c = record { holds = lines_are_dissolved }
