-- The law is proved in `proofs/PathRuns.antt`.
use Rattle.line_laws.proofs.PathRuns.{lines_are_cut}
use Rattle.line_laws.proofs.lines_are_cut.Goals as goal

pub returns : goal.returns
returns c = record { holds = lines_are_cut }
