use Rattle.std.proofs.Common.{◌≡◌, ◌++◌, take}
use Rattle.std.specs.List.{flat_map}
use Rattle.arc_table.specs.Nodes.{turns_of_line}
use Rattle.arc_table.proofs.nodes.mark_line_features.Given as goal

abbrev pub invariant-loop-f : goal.invariant-loop-f
invariant-loop-f l = l.turns.items ≡ l.fn.turns.items ++ flat_map (λ feature. flat_map turns_of_line feature) (take l.f l.s.lines)
