-- A face is in the set exactly by the rule that its points are in the region.
use Rattle.region_laws.proofs.Sets.{meets_are_followed}
use Rattle.region_laws.proofs.meets_are_followed.Goals as goal

pub returns : goal.returns
returns c = record { holds = meets_are_followed }
