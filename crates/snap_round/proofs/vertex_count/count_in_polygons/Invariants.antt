use Rattle.std.proofs.Common.{◌≡◌, take, length}
use Rattle.std.specs.Prelude.{sum_by}
use Rattle.snap_round.proofs.vertex_count.count_in_polygons.Given as goal

abbrev pub invariant-loop-polygon : goal.invariant-loop-polygon
invariant-loop-polygon l = l.count ≡ sum_by (sum_by length) (take l.polygon-index l.polygons)
