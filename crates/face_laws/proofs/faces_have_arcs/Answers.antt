-- By the place that has the number.
use Rattle.face_laws.proofs.ShownLemmas.{faces_have_arcs}
use Rattle.face_laws.proofs.faces_have_arcs.Goals as goal

pub returns : goal.returns
returns c = record { holds = faces_have_arcs }
