-- By the labels of the places beside the arc.
use Rattle.face_laws.proofs.HolderLemmas.{items_beside_arcs}
use Rattle.face_laws.proofs.items_beside_arcs.Goals as goal

pub returns : goal.returns
returns c = record { holds = items_beside_arcs }
