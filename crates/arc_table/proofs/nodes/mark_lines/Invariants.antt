use Rattle.std.proofs.Common.{◌≡◌, ◌++◌, take}
use Rattle.std.specs.List.{flat_map}
use Rattle.arc_table.specs.Nodes.{turns_of_line}
use Rattle.arc_table.proofs.nodes.mark_lines.Given as goal

abbrev pub invariant-loop-line : goal.invariant-loop-line
invariant-loop-line l = l.turns.items ≡ l.fn.turns.items ++ flat_map turns_of_line (take l.line-index l.lines)
