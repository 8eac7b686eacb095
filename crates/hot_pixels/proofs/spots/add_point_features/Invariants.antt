use Rattle.std.proofs.Common.{◌≡◌, ◌++◌, drop}
use Rattle.std.specs.List.{flat_map}
use Rattle.hot_pixels.specs.Spots.{points_spots}
use Rattle.hot_pixels.proofs.spots.add_point_features.Given as goal

abbrev pub invariant-loop-f : goal.invariant-loop-f
invariant-loop-f l = l.initial.spots.items ++ flat_map points_spots l.d.points ≡ l.spots.items ++ flat_map points_spots (drop l.f l.d.points)
