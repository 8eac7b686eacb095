use Rattle.outcome_laws.proofs.ClosedRings.{cells_closed}
use Rattle.outcome_laws.proofs.cell_rings_are_closed.Goals as goal

pub returns : goal.returns
returns c = record { holds = cells_closed }
