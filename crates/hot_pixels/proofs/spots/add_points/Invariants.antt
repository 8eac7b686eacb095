use Rattle.std.proofs.Common.{◌≡◌, ◌++◌, take, map}
use Rattle.plane_model.specs.Drawing.{point_segment}
use Rattle.hot_pixels.proofs.spots.add_points.Given as goal

abbrev pub invariant-loop-p : goal.invariant-loop-p
invariant-loop-p l = l.spots.items ≡ l.initial.spots.items ++ map point_segment (take l.p-index l.points)
