use Rattle.std.proofs.Common.{◌≡◌, take, map}
use Rattle.plane_model.specs.Snapped.{snapped_path}
use Rattle.snap_round.specs.Paths.{with_rings}
use Rattle.snap_round.proofs.paths.add_rings.Given as goal

abbrev pub invariant-loop-ring : goal.invariant-loop-ring
invariant-loop-ring l = l.out ≡ with_rings (map (snapped_path l.hot.points) (take l.ring-index l.rings)) l.initial.out
