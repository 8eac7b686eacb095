-- The law is proved in `proofs/Runs.antt`.
use Rattle.headline_laws.proofs.Runs.{answers_bound}
use Rattle.headline_laws.proofs.answers_are_bound.Goals as goal

pub returns : goal.returns
returns c = record { holds = answers_bound }
