-- The law is proved in `proofs/Answered.antt`.
use Rattle.region_laws.proofs.Answered.{emptiness_is_told}
use Rattle.region_laws.proofs.emptiness_is_told.Goals as goal

pub returns : goal.returns
returns c = record { holds = emptiness_is_told }
