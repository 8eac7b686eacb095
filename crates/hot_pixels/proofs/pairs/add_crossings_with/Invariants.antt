use Rattle.std.proofs.Common.{◌≡◌, ◌++◌, drop}
use Rattle.std.specs.List.{flat_map}
use Rattle.std.specs.Option.{option_to_list}
use Rattle.hot_pixels.specs.Spots.{crossing_at, crossings_with}
use Rattle.hot_pixels.proofs.pairs.add_crossings_with.Given as goal

abbrev pub invariant-loop-j : goal.invariant-loop-j
invariant-loop-j l = l.initial.points.items ++ crossings_with l.edges l.i l.near ≡ l.points.items ++ flat_map (λ j. option_to_list (crossing_at l.edges l.i j)) (drop l.j-index l.near)
