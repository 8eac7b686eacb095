use Rattle.std.proofs.Common.{◌≡◌, ◌++◌, map, take}
use Rattle.run_shapes.specs.Exploding.{one_point}
use Rattle.run_shapes.proofs.exploding.push_each_point.Given as goal

abbrev pub invariant-loop-point : goal.invariant-loop-point
invariant-loop-point l = l.pieces.items ≡ l.fn.pieces.items ++ map one_point (take l.point-index l.points)
