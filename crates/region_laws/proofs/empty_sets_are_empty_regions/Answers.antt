-- The side of a link has the label of the points that see the link from there.
use Rattle.region_laws.proofs.TieLaws.{empty_sets_are_empty_regions}
use Rattle.region_laws.proofs.empty_sets_are_empty_regions.Goals as goal

pub returns : goal.returns
returns c = record { holds = empty_sets_are_empty_regions }
