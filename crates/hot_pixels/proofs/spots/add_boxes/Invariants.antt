use Rattle.std.proofs.Common.{◌≡◌, ◌++◌, drop}
use Rattle.std.specs.List.{flat_map}
use Rattle.hot_pixels.specs.Spots.{path_spots}
use Rattle.hot_pixels.proofs.spots.add_boxes.Given as goal

abbrev pub invariant-loop-b : goal.invariant-loop-b
invariant-loop-b l = l.initial.spots.items ++ flat_map path_spots l.d.boxes ≡ l.spots.items ++ flat_map path_spots (drop l.b l.d.boxes)
