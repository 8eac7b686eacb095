use Rattle.hot_pixels.proofs.EndLemmas.{AreFirstEnds}
use Rattle.hot_pixels.proofs.hot_edges.ends_of.Given as goal

abbrev pub invariant-loop-s : goal.invariant-loop-s
invariant-loop-s l = AreFirstEnds l.edges l.s-index l.last l.points.items
