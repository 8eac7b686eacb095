use Rattle.cmd_words.proofs.ExpressionFaults.{reads_assignments_fault}
use Rattle.cmd_words.proofs.expressions.Assignments.read.Goals as goal

pub returns-in-Err-clause-exact : goal.returns-in-Err-clause-exact
returns-in-Err-clause-exact c = λ refuses right. rw c.refusal_of.ensures.exact (reads_assignments_fault refuses c.args.text.now c.in-Err.fault right c.in-Err.ensures.fault)
