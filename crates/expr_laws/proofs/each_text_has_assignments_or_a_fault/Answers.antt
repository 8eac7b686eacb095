use Rattle.expr_laws.proofs.Faults.{assigns_or_fault}
use Rattle.expr_laws.proofs.each_text_has_assignments_or_a_fault.Goals as goal

pub returns : goal.returns
returns c = record { holds = assigns_or_fault }
