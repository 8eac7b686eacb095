use Rattle.outcome_laws.proofs.BegunRings.{begun_rings_are_closed}
use Rattle.outcome_laws.proofs.begun_rings_are_closed.Goals as goal

pub returns : goal.returns
returns c = record { holds = begun_rings_are_closed }
