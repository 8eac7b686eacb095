use Rattle.std.proofs.Common.{◌*◌, ◌+◌, ◌-◌, length}
use Rattle.expr_lang.specs.Tree.{node_tree}
use Rattle.expr_lang.specs.Grammar.{Toks, Level}
use Rattle.expr_lang.specs.Reading.{Passes, before, past, plainly, EndsLevel}
use Rattle.expr_lang.proofs.parser.Parser.+parts.Given as goal

abbrev pub decreases-cond : goal.decreases-cond
decreases-cond l = 10 * l.depth + 9

abbrev pub decreases-level : goal.decreases-level
decreases-level l = 10 * l.depth + 2 + l.level

abbrev pub decreases-unary : goal.decreases-unary
decreases-unary l = 10 * l.depth + 1

abbrev pub decreases-atom : goal.decreases-atom
decreases-atom l = 10 * l.depth

abbrev pub invariant-level-loop-at : goal.invariant-level-loop-at
invariant-level-loop-at l = record {
  so_far : Passes (λ (s : Toks). Level l.level l.depth s (node_tree l.left)) (plainly before l.depth) (plainly past l.depth) l.fn.self.rest.now l.self.rest.now;
  ended : EndsLevel (l.level - 1) l.self.rest.now;
}

abbrev pub decreases-level-loop-at : goal.decreases-level-loop-at
decreases-level-loop-at l = length l.self.rest.now
