use Rattle.expr_laws.proofs.Readings.{accepted_tree}
use Rattle.expr_laws.proofs.accepted_tokens_are_expressions.Goals as goal

pub returns : goal.returns
returns c = record { holds = accepted_tree }
