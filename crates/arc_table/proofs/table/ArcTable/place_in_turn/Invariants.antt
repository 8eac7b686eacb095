use Rattle.std.proofs.Common.{◌+◌, ◌≤◌, length}
use Rattle.arc_table.proofs.table.ArcTable.place_in_turn.Given as goal

abbrev pub invariant-loop-count : goal.invariant-loop-count
invariant-loop-count l = l.low + l.count ≤ length l.row

abbrev pub decreases-loop-count : goal.decreases-loop-count
decreases-loop-count l = l.count
