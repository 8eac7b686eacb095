-- Once about each vertex.
use Rattle.plane_faces.proofs.BorderEven.{border_even}
use Rattle.plane_faces.proofs.Sorting.{rotations_exist}
use Rattle.plane_faces.proofs.border_is_even.Goals as goal

pub returns : goal.returns
returns c = record { holds = λ S arr distinct f agrees. border_even S (rotations_exist S arr distinct) f agrees.sector }
