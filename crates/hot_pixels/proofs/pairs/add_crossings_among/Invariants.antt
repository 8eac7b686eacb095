use Rattle.std.proofs.Common.{◌≡◌, ◌++◌, drop}
use Rattle.hot_pixels.specs.Spots.{crossings_among}
use Rattle.hot_pixels.proofs.pairs.add_crossings_among.Given as goal

abbrev pub invariant-loop-k : goal.invariant-loop-k
invariant-loop-k l = l.initial.points.items ++ crossings_among l.edges l.near ≡ l.points.items ++ crossings_among l.edges (drop l.k l.near)
