use Rattle.std.proofs.Common.{◌≡◌, ◌++◌, drop}
use Rattle.hot_pixels.specs.Links.{links_of_chains}
use Rattle.hot_pixels.proofs.hot_edges.HotEdges.links.Given as goal

abbrev pub invariant-loop-i : goal.invariant-loop-i
invariant-loop-i l = links_of_chains l.self.points l.self.edges ≡ l.links.items ++ links_of_chains l.self.points (drop l.i l.self.edges)
