use Rattle.std.proofs.Common.{◌≡◌, ◌+◌, ◌++◌, drop, length}
use Rattle.spatial_join.specs.Joined.{refused_calc}
use Rattle.spatial_join.proofs.calculations.check_calculations.Given as goal

abbrev pub invariant-loop-calc : goal.invariant-loop-calc
invariant-loop-calc l =
    refused_calc l.sources (l.targets ++ l.copied) l.first l.calculations
    ≡ refused_calc l.sources ((l.targets ++ l.copied) ++ l.seen) (l.first + length l.seen) (drop l.calc-index l.calculations)
