use Rattle.std.proofs.Common.{length}
use Rattle.expr_lang.proofs.Scanning.{Scanned}
use Rattle.expr_lang.proofs.scanner.tokens.Given as goal

abbrev pub invariant-loop-first : goal.invariant-loop-first
invariant-loop-first l = Scanned l.text l.tokens.items l.scanner.rest.now

abbrev pub decreases-loop-first : goal.decreases-loop-first
decreases-loop-first l = length l.scanner.rest.now
