use Rattle.ring_trace.specs.Turns.{IsFirstLeast}
use Rattle.ring_trace.proofs.turns.least_point.Given as goal

abbrev pub invariant-loop-k : goal.invariant-loop-k
invariant-loop-k l = IsFirstLeast l.points l.k l.least
