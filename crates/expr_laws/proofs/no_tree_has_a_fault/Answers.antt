use Rattle.expr_laws.proofs.OneFault.{tree_has_no_fault}
use Rattle.expr_laws.proofs.no_tree_has_a_fault.Goals as goal

pub returns : goal.returns
returns c = record { holds = tree_has_no_fault }
