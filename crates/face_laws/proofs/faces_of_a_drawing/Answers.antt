-- By the places of the points.
use Rattle.face_laws.proofs.ShownLemmas.{faces_of_a_drawing}
use Rattle.face_laws.proofs.faces_of_a_drawing.Goals as goal

pub returns : goal.returns
returns c = record { holds = faces_of_a_drawing }
