-- Crossing by crossing.
use Rattle.face_laws.proofs.HolderLemmas.{items_hold_by_parity}
use Rattle.face_laws.proofs.items_hold_by_parity.Goals as goal

pub returns : goal.returns
returns c = record { holds = items_hold_by_parity }
