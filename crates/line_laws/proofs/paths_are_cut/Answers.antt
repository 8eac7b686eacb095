-- The law is proved in `proofs/PathRuns.antt`.
use Rattle.line_laws.proofs.PathRuns.{paths_are_cut}
use Rattle.line_laws.proofs.paths_are_cut.Goals as goal

pub returns : goal.returns
returns c = record { holds = paths_are_cut }
