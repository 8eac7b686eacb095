-- The law is proved in `proofs/Whole.antt`.
use Rattle.headline_laws.proofs.Whole.{runs_are_of_the_model}
use Rattle.headline_laws.proofs.runs_are_of_the_model.Goals as goal

pub returns : goal.returns
returns c = record { holds = runs_are_of_the_model }
