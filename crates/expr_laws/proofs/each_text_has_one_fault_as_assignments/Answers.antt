use Rattle.expr_laws.proofs.OneFault.{one_assigns_fault}
use Rattle.expr_laws.proofs.each_text_has_one_fault_as_assignments.Goals as goal

pub returns : goal.returns
returns c = record { holds = one_assigns_fault }
