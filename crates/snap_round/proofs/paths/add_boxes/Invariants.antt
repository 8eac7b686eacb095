use Rattle.std.proofs.Common.{◌≡◌, ◌++◌, take, map}
use Rattle.plane_model.specs.Snapped.{snapped_path}
use Rattle.snap_round.proofs.paths.add_boxes.Given as goal

abbrev pub invariant-loop-b : goal.invariant-loop-b
invariant-loop-b l = l.out ≡ record l.initial.out { boxes = l.initial.out.boxes ++ map (snapped_path l.hot.points) (take l.b l.d.boxes) }
