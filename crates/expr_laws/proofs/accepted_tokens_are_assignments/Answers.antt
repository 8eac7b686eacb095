use Rattle.expr_laws.proofs.Readings.{accepted_assigns}
use Rattle.expr_laws.proofs.accepted_tokens_are_assignments.Goals as goal

pub returns : goal.returns
returns c = record { holds = accepted_assigns }
