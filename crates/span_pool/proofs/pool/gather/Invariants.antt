use Rattle.span_pool.proofs.Keeping.{IsKeeping}
use Rattle.span_pool.proofs.pool.gather.Given as goal

abbrev pub invariant-loop-i : goal.invariant-loop-i
invariant-loop-i l = IsKeeping l.ids l.fn.ends.items l.fn.points.items l.ends.items l.points.items l.kept l.at l.from l.i
