use Rattle.std.proofs.Common.{◌≡◌, take, length}
use Rattle.std.specs.Prelude.{sum_by}
use Rattle.snap_round.proofs.vertex_count.count_in_polygon_features.Given as goal

abbrev pub invariant-loop-f : goal.invariant-loop-f
invariant-loop-f l = l.count ≡ sum_by (sum_by (sum_by length)) (take l.f l.d.polygons)
