use Rattle.std.proofs.Common.{◌≡◌, ◌++◌, take}
use Rattle.snap_round.proofs.paths.add_point_features.Given as goal

abbrev pub invariant-loop-f : goal.invariant-loop-f
invariant-loop-f l = l.out ≡ record l.initial.out { points = l.initial.out.points ++ take l.f l.d.points }
