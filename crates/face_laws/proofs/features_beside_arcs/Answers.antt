-- By the labels of the places beside the links.
use Rattle.face_laws.proofs.SideLemmas.{features_beside_arcs}
use Rattle.face_laws.proofs.features_beside_arcs.Goals as goal

pub returns : goal.returns
returns c = record { holds = features_beside_arcs }
