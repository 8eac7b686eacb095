use Rattle.expr_laws.proofs.OneFault.{assigns_have_no_fault}
use Rattle.expr_laws.proofs.no_assignments_have_a_fault.Goals as goal

pub returns : goal.returns
returns c = record { holds = assigns_have_no_fault }
