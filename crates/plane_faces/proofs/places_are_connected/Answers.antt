-- By the order of the vertices.
use Rattle.plane_faces.proofs.Connected.{connected}
use Rattle.plane_faces.proofs.Sorting.{rotations_exist}
use Rattle.plane_faces.proofs.places_are_connected.Goals as goal

pub returns : goal.returns
returns c = record { holds = λ S arr distinct f agrees crossed. connected S arr (rotations_exist S arr distinct) f agrees crossed }
