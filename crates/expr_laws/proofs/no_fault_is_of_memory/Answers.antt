use Rattle.expr_laws.proofs.Faults.{no_memory}
use Rattle.expr_laws.proofs.no_fault_is_of_memory.Goals as goal

pub returns : goal.returns
returns c = record { holds = no_memory }
