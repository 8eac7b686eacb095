use Rattle.std.proofs.Common.{◌≡◌, take, map}
use Rattle.plane_model.specs.Snapped.{snapped_path}
use Rattle.snap_round.specs.Paths.{with_polygons}
use Rattle.snap_round.proofs.paths.add_polygons.Given as goal

abbrev pub invariant-loop-polygon : goal.invariant-loop-polygon
invariant-loop-polygon l = l.out ≡ with_polygons (map (map (snapped_path l.hot.points)) (take l.polygon-index l.polygons)) l.initial.out
