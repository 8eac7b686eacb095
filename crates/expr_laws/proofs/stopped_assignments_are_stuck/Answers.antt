use Rattle.expr_laws.proofs.Readings.{stopped_assigns}
use Rattle.expr_laws.proofs.stopped_assignments_are_stuck.Goals as goal

pub returns : goal.returns
returns c = record { holds = stopped_assigns }
