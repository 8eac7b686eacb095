-- Parts are the classes of joined points.
use Rattle.part_laws.proofs.ApartLaws.{polygons_are_joined_points}
use Rattle.part_laws.proofs.polygons_are_joined_points.Goals as goal

pub returns : goal.returns
returns c = record { holds = polygons_are_joined_points }
