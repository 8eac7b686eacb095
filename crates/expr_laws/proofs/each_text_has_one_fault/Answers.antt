use Rattle.expr_laws.proofs.OneFault.{one_fault}
use Rattle.expr_laws.proofs.each_text_has_one_fault.Goals as goal

pub returns : goal.returns
returns c = record { holds = one_fault }
