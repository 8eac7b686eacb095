use Rattle.std.proofs.Common.{◌≡◌, ◌++◌, take}
use Rattle.std.specs.List.{flat_map}
use Rattle.arc_table.specs.Nodes.{turns_of_ring}
use Rattle.arc_table.proofs.nodes.mark_polygon_features.Given as goal

abbrev pub invariant-loop-f : goal.invariant-loop-f
invariant-loop-f l = l.turns.items ≡ l.fn.turns.items ++ flat_map (λ feature. flat_map (λ polygon. flat_map turns_of_ring polygon) feature) (take l.f l.s.polygons)
