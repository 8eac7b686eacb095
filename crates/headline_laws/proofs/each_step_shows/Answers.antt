-- The law is proved in `proofs/Steps.antt`.
use Rattle.headline_laws.proofs.Steps.{each_step}
use Rattle.headline_laws.proofs.each_step_shows.Goals as goal

pub returns : goal.returns
returns c = record { holds = each_step }
