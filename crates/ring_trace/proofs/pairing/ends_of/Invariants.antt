use Rattle.ring_trace.proofs.PairLemmas.{AreEnds}
use Rattle.ring_trace.proofs.pairing.ends_of.Given as goal

abbrev pub invariant-loop-k : goal.invariant-loop-k
invariant-loop-k l = AreEnds l.t l.edges l.k l.ends.items
