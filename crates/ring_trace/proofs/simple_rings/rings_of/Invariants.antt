use Rattle.ring_trace.proofs.CornerLemmas.{IsSoFar}
use Rattle.ring_trace.proofs.simple_rings.rings_of.Given as goal

abbrev pub invariant-loop-e : goal.invariant-loop-e
invariant-loop-e l = IsSoFar l.t l.edges l.e l.walk l.rings
