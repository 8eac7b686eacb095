use Rattle.std.proofs.Common.{◌≡◌, take, map}
use Rattle.plane_model.specs.Snapped.{snapped_path}
use Rattle.snap_round.specs.Paths.{with_lines}
use Rattle.snap_round.proofs.paths.add_lines.Given as goal

abbrev pub invariant-loop-line : goal.invariant-loop-line
invariant-loop-line l = l.out ≡ with_lines (map (snapped_path l.hot.points) (take l.line-index l.lines)) l.initial.out
