-- Its links are an arrangement, and no vertex inside a whole arc has more than two.
use Rattle.face_laws.proofs.PointLemmas.{points_of_a_drawing}
use Rattle.face_laws.proofs.points_of_a_drawing.Goals as goal

pub returns : goal.returns
returns c = record { holds = points_of_a_drawing }
