-- All that see it have its label.
use Rattle.point_laws.proofs.FreePoints.{free_points_are_inside}
use Rattle.point_laws.proofs.free_points_are_inside.Goals as goal

pub returns : goal.returns
returns c = record { holds = free_points_are_inside }
