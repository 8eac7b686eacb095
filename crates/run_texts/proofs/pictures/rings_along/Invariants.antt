use Rattle.std.proofs.Common.{◌≡◌, map, take}
use Rattle.run_texts.specs.Pictures.{points_along}
use Rattle.run_texts.proofs.pictures.rings_along.Given as goal

abbrev pub invariant-loop-ring : goal.invariant-loop-ring
invariant-loop-ring l = l.drawn ≡ map (points_along l.arcs) (take l.ring-index l.rings)
