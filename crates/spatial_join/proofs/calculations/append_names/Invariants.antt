use Rattle.std.proofs.Common.{◌≡◌, ◌++◌, map, take}
use Rattle.spatial_join.specs.Joined.{calc_name}
use Rattle.spatial_join.proofs.calculations.append_names.Given as goal

abbrev pub invariant-loop-calc : goal.invariant-loop-calc
invariant-loop-calc l = l.names ≡ l.initial.names ++ map calc_name (take l.calc-index l.calculations)
