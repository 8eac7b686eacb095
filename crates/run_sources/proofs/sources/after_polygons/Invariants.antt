use Rattle.std.proofs.Common.{◌≡◌, ◌-◌, take, sum_by}
use Rattle.run_sources.specs.Budget.{positions_along}
use Rattle.run_sources.proofs.sources.after_polygons.Given as goal

abbrev pub invariant-loop-polygon : goal.invariant-loop-polygon
invariant-loop-polygon l = l.left ≡ l.room - sum_by positions_along (take l.polygon-index l.polygons)
