use Rattle.std.specs.Prelude.{All}
use Rattle.face_walk.specs.Places.{HasArc}
use Rattle.plane_tests.proofs.line_ops_calls.line_arcs.Given as goal

abbrev pub invariant-loop-path : goal.invariant-loop-path
invariant-loop-path l = All (All (HasArc l.laid.faces)) l.paths
