use Rattle.std.proofs.Common.{◌≡◌, map, take}
use Rattle.spatial_join.specs.CalcColumns.{summed_place}
use Rattle.spatial_join.proofs.calculations.summed_places.Given as goal

abbrev pub invariant-loop-calc : goal.invariant-loop-calc
invariant-loop-calc l = l.places.items ≡ map (summed_place l.sources) (take l.calc-index l.calculations)
