-- Each face of the set is in one part, and each part has a polygon.
use Rattle.part_laws.proofs.ApartLaws.{polygons_hold_the_set}
use Rattle.part_laws.proofs.polygons_hold_the_set.Goals as goal

pub returns : goal.returns
returns c = record { holds = polygons_hold_the_set }
