-- By counts of darts along the rings and in the border of the part.
use Rattle.part_laws.proofs.PolygonLaws.{polygons_have_exteriors}
use Rattle.part_laws.proofs.polygons_have_exteriors.Goals as goal

pub returns : goal.returns
returns c = record { holds = polygons_have_exteriors }
