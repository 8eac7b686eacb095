use Rattle.hot_pixels.proofs.ChainLemmas.{RiseTo}
use Rattle.hot_pixels.proofs.chains.do_rise.Given as goal

abbrev pub invariant-loop-k : goal.invariant-loop-k
invariant-loop-k l = RiseTo l.s l.points l.k
