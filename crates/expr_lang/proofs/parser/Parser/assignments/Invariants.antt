use Rattle.expr_lang.specs.Tree.{all_assigned}
use Rattle.expr_lang.specs.Grammar.{Toks}
use Rattle.expr_lang.specs.Reading.{Passes, before_assign}
use Rattle.expr_lang.proofs.Assignments.{Ended}
use Rattle.std.proofs.Common.{length}
use Rattle.expr_lang.proofs.parser.Parser.assignments.Given as goal

abbrev pub invariant-loop-list : goal.invariant-loop-list
invariant-loop-list l = Passes (λ (z : Toks). Ended 64 z (all_assigned l.list)) (before_assign 64) (before_assign 64) l.fn.self.rest.now l.self.rest.now

abbrev pub decreases-loop-list : goal.decreases-loop-list
decreases-loop-list l = length l.self.rest.now
