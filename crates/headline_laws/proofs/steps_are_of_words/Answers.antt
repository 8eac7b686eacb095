-- The law is proved in `proofs/OneStep.antt`.
use Rattle.headline_laws.proofs.OneStep.{one_step_each}
use Rattle.headline_laws.proofs.steps_are_of_words.Goals as goal

pub returns : goal.returns
returns c = record { holds = one_step_each }
