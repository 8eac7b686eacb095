-- The ring that has the border's lowest link is the exterior.
use Rattle.plane_faces.proofs.Laws.{least_paths}
use Rattle.plane_faces.proofs.rings_of_a_part_are_a_polygon.Goals as goal

pub returns : goal.returns
returns c = record { holds = least_paths }
