use Rattle.expr_laws.proofs.Faults.{tree_or_fault}
use Rattle.expr_laws.proofs.each_text_has_a_tree_or_a_fault.Goals as goal

pub returns : goal.returns
returns c = record { holds = tree_or_fault }
