-- The links of the rings are the border of the part, which is odd just within it.
use Rattle.part_laws.proofs.ApartLaws.{polygons_hold_by_parity}
use Rattle.part_laws.proofs.polygons_hold_by_parity.Goals as goal

pub returns : goal.returns
returns c = record { holds = polygons_hold_by_parity }
