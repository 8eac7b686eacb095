-- By the order of rings: none that turns right stands before one that turns left.
use Rattle.part_laws.proofs.TracedLaws.{traced_polygons_have_exteriors}
use Rattle.part_laws.proofs.traced_polygons_have_exteriors.Goals as goal

pub returns : goal.returns
returns c = record { holds = traced_polygons_have_exteriors }
