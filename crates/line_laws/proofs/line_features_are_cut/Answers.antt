-- The law is proved in `proofs/PathRuns.antt`.
use Rattle.line_laws.proofs.PathRuns.{line_features_are_cut}
use Rattle.line_laws.proofs.line_features_are_cut.Goals as goal

pub returns : goal.returns
returns c = record { holds = line_features_are_cut }
