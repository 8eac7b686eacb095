-- The law is proved in `proofs/LinkedArcs.antt`.
use Rattle.line_laws.proofs.LinkedArcs.{runs_are_linked}
use Rattle.line_laws.proofs.runs_are_linked.Goals as goal

pub returns : goal.returns
returns c = record { holds = runs_are_linked }
