use Rattle.expr_lang.proofs.Assignments.{assigns_accepted}
use Rattle.expr_lang.proofs.laws.assignments_are_accepted.Goals as goal

pub returns : goal.returns
returns c = record { holds = assigns_accepted }
