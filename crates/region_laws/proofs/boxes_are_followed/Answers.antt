-- A point has the parity of its place, and so have its holders.
use Rattle.region_laws.proofs.Held.{boxes_are_followed}
use Rattle.region_laws.proofs.boxes_are_followed.Goals as goal

pub returns : goal.returns
returns c = record { holds = boxes_are_followed }
