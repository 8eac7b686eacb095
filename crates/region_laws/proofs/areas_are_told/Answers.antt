-- The law is proved in `proofs/Answered.antt`.
use Rattle.region_laws.proofs.Answered.{areas_are_told}
use Rattle.region_laws.proofs.areas_are_told.Goals as goal

pub returns : goal.returns
returns c = record { holds = areas_are_told }
