-- What differs from the test is one value at all places, and false outside.
use Rattle.plane_faces.proofs.Connected.{border_parity}
use Rattle.plane_faces.proofs.Sorting.{rotations_exist}
use Rattle.plane_faces.proofs.parity_of_a_border.Goals as goal

pub returns : goal.returns
returns c = record { holds = λ S arr distinct f agrees none. border_parity S arr distinct (rotations_exist S arr distinct) f agrees none }
