use Rattle.std.proofs.Common.{◌≡◌, take}
use Rattle.snap_round.specs.Paths.{with_points}
use Rattle.run_beginning.proofs.drawing.add_points.Given as goal

abbrev pub invariant-loop-point : goal.invariant-loop-point
invariant-loop-point l = l.drawing ≡ with_points (take l.point-index l.points) l.initial.drawing
