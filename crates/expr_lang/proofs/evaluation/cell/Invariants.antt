use Rattle.std.proofs.Common.{◌≡◌, length}
use Rattle.expr_lang.specs.Meaning.{cell}
use Rattle.expr_lang.proofs.evaluation.cell.Given as goal

abbrev pub invariant-loop-first : goal.invariant-loop-first
invariant-loop-first l = cell l.names l.row l.name ≡ cell l.fn.names l.fn.row l.name

abbrev pub decreases-loop-first : goal.decreases-loop-first
decreases-loop-first l = length l.names
