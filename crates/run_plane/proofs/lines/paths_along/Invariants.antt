use Rattle.std.proofs.Common.{take}
use Rattle.run_plane.specs.LineArcs.{AreLineArcs}
use Rattle.run_plane.proofs.lines.paths_along.Given as goal

abbrev pub invariant-loop-path : goal.invariant-loop-path
invariant-loop-path l = AreLineArcs l.arcs (take l.path-index l.lines) l.paths
