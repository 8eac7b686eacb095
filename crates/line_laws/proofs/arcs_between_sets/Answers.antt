-- The law is proved in `proofs/ArcsBetween.antt`.
use Rattle.line_laws.proofs.ArcsBetween.{arcs_between_sets}
use Rattle.line_laws.proofs.arcs_between_sets.Goals as goal

pub returns : goal.returns
returns c = record { holds = arcs_between_sets }
