-- No vertex of a snapped drawing lies inside a link.
use Rattle.point_laws.proofs.FreePoints.{free_points_of_a_drawing}
use Rattle.point_laws.proofs.free_points_of_a_drawing.Goals as goal

pub returns : goal.returns
returns c = record { holds = free_points_of_a_drawing }
