use Rattle.expr_laws.proofs.Faults.{no_assigns_memory}
use Rattle.expr_laws.proofs.no_fault_of_assignments_is_of_memory.Goals as goal

pub returns : goal.returns
returns c = record { holds = no_assigns_memory }
