-- The parts of what is outside a set, without the outer one, are the gaps of its regions.
use Rattle.region_laws.proofs.Gaps.{gaps_are_followed}
use Rattle.region_laws.proofs.gaps_are_followed.Goals as goal

pub returns : goal.returns
returns c = record { holds = gaps_are_followed }
