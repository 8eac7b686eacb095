-- The side of a link has the label of the points that see the link from there.
use Rattle.region_laws.proofs.TieLaws.{sets_are_of_sides}
use Rattle.region_laws.proofs.sets_are_of_sides.Goals as goal

pub returns : goal.returns
returns c = record { holds = sets_are_of_sides }
