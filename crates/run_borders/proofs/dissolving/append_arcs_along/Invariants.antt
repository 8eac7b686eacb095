use Rattle.std.proofs.Common.{◌≡◌, ◌++◌, take}
use Rattle.run_borders.specs.Dissolving.{arcs_along}
use Rattle.run_borders.proofs.dissolving.append_arcs_along.Given as goal

abbrev pub invariant-loop-arc : goal.invariant-loop-arc
invariant-loop-arc l = l.arcs.items ≡ l.fn.arcs.items ++ arcs_along (take l.arc-index l.path)
