-- The law is proved in `proofs/Answered.antt`.
use Rattle.region_laws.proofs.Answered.{exploded_as_told}
use Rattle.region_laws.proofs.exploded_as_told.Goals as goal

pub returns : goal.returns
returns c = record { holds = exploded_as_told }
