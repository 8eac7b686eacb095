use Rattle.std.proofs.Common.{◌≡◌, ◌++◌, take}
use Rattle.arc_table.specs.Nodes.{turns_back}
use Rattle.arc_table.proofs.nodes.mark_path.Given as goal

abbrev pub invariant-loop-i : goal.invariant-loop-i
invariant-loop-i l = l.turns.items ≡ l.fn.turns.items ++ turns_back (take l.i l.path)
