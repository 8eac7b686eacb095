use Rattle.std.proofs.Common.{◌≡◌, ◌++◌, take}
use Rattle.std.specs.List.{flat_map}
use Rattle.run_borders.specs.Dissolving.{arcs_along}
use Rattle.run_borders.proofs.dissolving.append_arcs.Given as goal

abbrev pub invariant-loop-path : goal.invariant-loop-path
invariant-loop-path l = l.arcs.items ≡ l.fn.arcs.items ++ flat_map arcs_along (take l.path-index l.paths)
