use Rattle.std.proofs.Common.{take}
use Rattle.std.specs.List.{AllZip}
use Rattle.run_plane.specs.LineArcs.{AreLineArcs}
use Rattle.run_plane.proofs.lines.lines_along.Given as goal

abbrev pub invariant-loop-number : goal.invariant-loop-number
invariant-loop-number l = AllZip (AreLineArcs l.arcs) (take l.number l.snapped.lines) l.lines.items
