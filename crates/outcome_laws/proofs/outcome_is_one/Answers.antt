use Rattle.outcome_laws.proofs.OneOutcome.{outcome_is_one}
use Rattle.outcome_laws.proofs.outcome_is_one.Goals as goal

pub returns : goal.returns
returns c = record { holds = outcome_is_one }
