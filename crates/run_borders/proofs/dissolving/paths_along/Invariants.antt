use Rattle.std.proofs.Common.{◌≡◌, map, take}
use Rattle.run_borders.specs.Dissolving.{path_along}
use Rattle.run_borders.proofs.dissolving.paths_along.Given as goal

abbrev pub invariant-loop-arc : goal.invariant-loop-arc
invariant-loop-arc l = l.paths ≡ map path_along (take l.arc-index l.arcs)
