use Rattle.std.proofs.Common.{◌≡◌, ◌++◌, drop}
use Rattle.std.specs.List.{flat_map}
use Rattle.hot_pixels.specs.Spots.{feature_spots}
use Rattle.hot_pixels.proofs.spots.add_polygon_features.Given as goal

abbrev pub invariant-loop-f : goal.invariant-loop-f
invariant-loop-f l = l.initial.spots.items ++ flat_map feature_spots l.d.polygons ≡ l.spots.items ++ flat_map feature_spots (drop l.f l.d.polygons)
