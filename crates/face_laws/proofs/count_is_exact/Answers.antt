-- By a point of each face.
use Rattle.face_laws.proofs.CountLemmas.{count_is_exact}
use Rattle.face_laws.proofs.count_is_exact.Goals as goal

pub returns : goal.returns
returns c = record { holds = count_is_exact }
