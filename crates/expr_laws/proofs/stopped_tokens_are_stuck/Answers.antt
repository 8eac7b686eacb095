use Rattle.expr_laws.proofs.Readings.{stopped_stuck}
use Rattle.expr_laws.proofs.stopped_tokens_are_stuck.Goals as goal

pub returns : goal.returns
returns c = record { holds = stopped_stuck }
