-- The law is proved in `proofs/Placed.antt`.
use Rattle.layer_laws.proofs.Placed.{placed_outputs_show}
use Rattle.layer_laws.proofs.placed_outputs_show.Goals as goal

pub returns : goal.returns
returns c = record { holds = placed_outputs_show }
