-- By the labels of their places.
use Rattle.face_laws.proofs.PointLemmas.{points_have_one_face}
use Rattle.face_laws.proofs.points_have_one_face.Goals as goal

pub returns : goal.returns
returns c = record { holds = points_have_one_face }
