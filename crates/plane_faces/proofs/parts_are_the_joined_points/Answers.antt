-- One part: no even list of the border; two parts: a ring of it.
use Rattle.plane_faces.proofs.Classes as classes
use Rattle.plane_faces.proofs.parts_are_the_joined_points.Goals as goal

pub returns : goal.returns
returns c = record { holds = classes.parts_are_joined }
