-- The law is proved in `proofs/PlaceSteps.antt`.
use Rattle.state_laws.proofs.PlaceSteps.{place_steps_show}
use Rattle.state_laws.proofs.place_steps_show.Goals as goal

pub returns : goal.returns
returns c = record { holds = place_steps_show }
