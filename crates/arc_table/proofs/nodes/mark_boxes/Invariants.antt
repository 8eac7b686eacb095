use Rattle.std.proofs.Common.{◌≡◌, ◌++◌, take}
use Rattle.std.specs.List.{flat_map}
use Rattle.arc_table.specs.Nodes.{turns_of_ring}
use Rattle.arc_table.proofs.nodes.mark_boxes.Given as goal

abbrev pub invariant-loop-b : goal.invariant-loop-b
invariant-loop-b l = l.turns.items ≡ l.fn.turns.items ++ flat_map turns_of_ring (take l.b l.s.boxes)
