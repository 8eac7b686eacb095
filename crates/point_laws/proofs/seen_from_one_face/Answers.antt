-- No link comes between them.
use Rattle.point_laws.proofs.SightLemmas.{seen_from_one_face}
use Rattle.point_laws.proofs.seen_from_one_face.Goals as goal

pub returns : goal.returns
returns c = record { holds = seen_from_one_face }
