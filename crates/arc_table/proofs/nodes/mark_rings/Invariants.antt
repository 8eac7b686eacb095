use Rattle.std.proofs.Common.{◌≡◌, ◌++◌, take}
use Rattle.std.specs.List.{flat_map}
use Rattle.arc_table.specs.Nodes.{turns_of_ring}
use Rattle.arc_table.proofs.nodes.mark_rings.Given as goal

abbrev pub invariant-loop-ring : goal.invariant-loop-ring
invariant-loop-ring l = l.turns.items ≡ l.fn.turns.items ++ flat_map turns_of_ring (take l.ring-index l.rings)
