-- The same, at the sides of links.
use Rattle.plane_faces.proofs.Connected.{border_at}
use Rattle.plane_faces.proofs.Sorting.{rotations_exist}
use Rattle.plane_faces.proofs.parity_beside_a_border.Goals as goal

pub returns : goal.returns
returns c = record { holds = λ S arr distinct f agrees none. border_at S arr distinct (rotations_exist S arr distinct) f agrees none }
