-- No two polygons hold one point, so an odd number of them holds it just if one does.
use Rattle.part_laws.proofs.TogetherLaws.{traces_hold_by_parity}
use Rattle.part_laws.proofs.traces_hold_by_parity.Goals as goal

pub returns : goal.returns
returns c = record { holds = traces_hold_by_parity }
