-- The law is proved in `proofs/PolygonSteps.antt`.
use Rattle.state_laws.proofs.PolygonSteps.{shape_steps_show}
use Rattle.state_laws.proofs.shape_steps_show.Goals as goal

pub returns : goal.returns
returns c = record { holds = shape_steps_show }
