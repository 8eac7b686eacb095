-- The law is proved in `proofs/Answered.antt`.
use Rattle.region_laws.proofs.Answered.{parts_are_told}
use Rattle.region_laws.proofs.parts_are_told.Goals as goal

pub returns : goal.returns
returns c = record { holds = parts_are_told }
