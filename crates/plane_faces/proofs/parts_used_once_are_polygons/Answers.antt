-- Steps of the border have the part on their left.
use Rattle.plane_faces.proofs.UsedOnce as used
use Rattle.plane_faces.proofs.parts_used_once_are_polygons.Goals as goal

pub returns : goal.returns
returns c = record { holds = used.parts_used_once_are_polygons }
