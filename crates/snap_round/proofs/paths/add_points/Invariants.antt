use Rattle.std.proofs.Common.{◌≡◌, take}
use Rattle.snap_round.specs.Paths.{with_points}
use Rattle.snap_round.proofs.paths.add_points.Given as goal

abbrev pub invariant-loop-p : goal.invariant-loop-p
invariant-loop-p l = l.out ≡ with_points (take l.p-index l.points) l.initial.out
