use Rattle.std.proofs.Common.{◌≡◌, take}
use Rattle.run_plane.proofs.copies.copy_points.Given as goal

abbrev pub invariant-loop-point : goal.invariant-loop-point
invariant-loop-point l = l.copy ≡ take l.point-index l.point-items
