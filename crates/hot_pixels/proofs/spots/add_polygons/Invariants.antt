use Rattle.std.proofs.Common.{◌≡◌, ◌++◌, drop}
use Rattle.std.specs.List.{flat_map}
use Rattle.hot_pixels.specs.Spots.{rings_spots}
use Rattle.hot_pixels.proofs.spots.add_polygons.Given as goal

abbrev pub invariant-loop-polygon : goal.invariant-loop-polygon
invariant-loop-polygon l = l.initial.spots.items ++ flat_map rings_spots l.polygons ≡ l.spots.items ++ flat_map rings_spots (drop l.polygon-index l.polygons)
