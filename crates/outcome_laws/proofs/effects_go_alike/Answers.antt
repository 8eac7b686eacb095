use Rattle.outcome_laws.proofs.OneOutcome.{effects_go_alike}
use Rattle.outcome_laws.proofs.effects_go_alike.Goals as goal

pub returns : goal.returns
returns c = record { holds = effects_go_alike }
