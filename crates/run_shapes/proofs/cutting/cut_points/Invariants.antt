use Rattle.std.proofs.Common.{take}
use Rattle.run_shapes.specs.Cutting.{ArePointsLeft}
use Rattle.run_shapes.proofs.cutting.cut_points.Given as goal

abbrev pub invariant-loop-point : goal.invariant-loop-point
invariant-loop-point l = ArePointsLeft l.keeps l.plane l.cut_set (take l.point-index l.point-items) l.left
