use Rattle.std.proofs.Common.{◌≡◌, ◌++◌, take}
use Rattle.std.specs.List.{flat_map}
use Rattle.arc_table.specs.Nodes.{turns_of_ring}
use Rattle.arc_table.proofs.nodes.mark_polygons.Given as goal

abbrev pub invariant-loop-polygon : goal.invariant-loop-polygon
invariant-loop-polygon l = l.turns.items ≡ l.fn.turns.items ++ flat_map (λ polygon. flat_map turns_of_ring polygon) (take l.polygon-index l.polygons)
