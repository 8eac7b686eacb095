use Rattle.std.proofs.Common.{take}
use Rattle.hot_pixels.specs.Edges.{AreEdgesOf}
use Rattle.hot_pixels.proofs.edges.edges_of.Given as goal

abbrev pub invariant-loop-s : goal.invariant-loop-s
invariant-loop-s l = AreEdgesOf (take l.s-index l.segments) l.edges.items
