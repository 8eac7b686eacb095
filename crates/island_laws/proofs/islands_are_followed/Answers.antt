-- The law is proved in `proofs/IslandsLeft.antt`.
use Rattle.island_laws.proofs.IslandsLeft.{islands_are_followed}
use Rattle.island_laws.proofs.islands_are_followed.Goals as goal

pub returns : goal.returns
returns c = record { holds = islands_are_followed }
