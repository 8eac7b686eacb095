-- By the links of their rings, which are even lists.
use Rattle.face_laws.proofs.HoldingLemmas.{items_of_a_drawing}
use Rattle.face_laws.proofs.items_of_a_drawing.Goals as goal

pub returns : goal.returns
returns c = record { holds = items_of_a_drawing }
