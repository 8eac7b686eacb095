-- The law is proved in `proofs/ByRegions.antt`.
use Rattle.line_laws.proofs.ByRegions.{sets_are_holders}
use Rattle.line_laws.proofs.sets_are_holders.Goals as goal

pub returns : goal.returns
returns c = record { holds = sets_are_holders }
