-- A grid point has one place, and the face over it is that of the place.
use Rattle.part_laws.proofs.ApartLaws.{polygons_of_a_drawing}
use Rattle.part_laws.proofs.polygons_of_a_drawing.Goals as goal

pub returns : goal.returns
returns c = record { holds = polygons_of_a_drawing }
