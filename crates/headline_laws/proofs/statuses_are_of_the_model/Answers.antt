-- The law is proved in `proofs/Statuses.antt`.
use Rattle.headline_laws.proofs.Statuses.{statuses}
use Rattle.headline_laws.proofs.statuses_are_of_the_model.Goals as goal

pub returns : goal.returns
returns c = record { holds = statuses }
