use Rattle.std.proofs.Common.{◌≡◌, ◌++◌, take, map}
use Rattle.plane_model.specs.Snapped.{snapped_path}
use Rattle.snap_round.proofs.paths.add_line_features.Given as goal

abbrev pub invariant-loop-f : goal.invariant-loop-f
invariant-loop-f l = l.out ≡ record l.initial.out { lines = l.initial.out.lines ++ map (map (snapped_path l.hot.points)) (take l.f l.d.lines) }
