-- The law is proved in `proofs/Answered.antt`.
use Rattle.region_laws.proofs.Answered.{sides_are_told}
use Rattle.region_laws.proofs.sides_are_told.Goals as goal

pub returns : goal.returns
returns c = record { holds = sides_are_told }
