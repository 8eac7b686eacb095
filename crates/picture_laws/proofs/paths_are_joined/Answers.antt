-- The law is proved in `proofs/Along.antt`.
use Rattle.picture_laws.proofs.Along.{along_joined}
use Rattle.picture_laws.proofs.paths_are_joined.Goals as goal

pub returns : goal.returns
returns c = record { holds = along_joined }
