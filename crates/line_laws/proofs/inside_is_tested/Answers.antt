-- The law is proved in `proofs/PathRuns.antt`.
use Rattle.line_laws.proofs.PathRuns.{inside_is_tested}
use Rattle.line_laws.proofs.inside_is_tested.Goals as goal

pub returns : goal.returns
returns c = record { holds = inside_is_tested }
