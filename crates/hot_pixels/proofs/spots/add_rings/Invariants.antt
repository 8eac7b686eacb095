use Rattle.std.proofs.Common.{◌≡◌, ◌++◌, drop}
use Rattle.std.specs.List.{flat_map}
use Rattle.hot_pixels.specs.Spots.{path_spots}
use Rattle.hot_pixels.proofs.spots.add_rings.Given as goal

abbrev pub invariant-loop-ring : goal.invariant-loop-ring
invariant-loop-ring l = l.initial.spots.items ++ flat_map path_spots l.rings ≡ l.spots.items ++ flat_map path_spots (drop l.ring-index l.rings)
