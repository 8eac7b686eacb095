-- A face is in the set exactly by the rule that its points are in the region.
use Rattle.region_laws.proofs.Sets.{remainders_are_followed}
use Rattle.region_laws.proofs.remainders_are_followed.Goals as goal

pub returns : goal.returns
returns c = record { holds = remainders_are_followed }
