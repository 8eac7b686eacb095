use Rattle.std.proofs.Common.{◌-◌}
use Rattle.arc_table.specs.Lookup.{BeginAlong}
use Rattle.arc_table.proofs.DrawnPaths.{Follows}
use Rattle.arc_table.proofs.table.ArcTable.path_arcs.Given as goal

abbrev pub invariant-loop-i : goal.invariant-loop-i
invariant-loop-i l = BeginAlong l.self l.path l.arcs × Follows l.self l.path (l.i - 1) l.inside l.arcs
