-- The law is proved in `proofs/Answered.antt`.
use Rattle.region_laws.proofs.Answered.{layers_are_followed}
use Rattle.region_laws.proofs.layers_are_followed.Goals as goal

pub returns : goal.returns
returns c = record { holds = layers_are_followed }
