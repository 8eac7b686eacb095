-- Counted, no point is held twice, and the readings agree.
use Rattle.printed_laws.proofs.Agreed.{polygons_are_apart}
use Rattle.printed_laws.proofs.polygons_are_apart.Goals as goal

pub returns : goal.returns
returns c = record { holds = polygons_are_apart }
