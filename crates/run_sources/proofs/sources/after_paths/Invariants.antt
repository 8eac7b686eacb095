use Rattle.std.proofs.Common.{◌≡◌, ◌-◌, take, sum_by, length}
use Rattle.plane_model.specs.Points.{Path}
use Rattle.run_sources.proofs.sources.after_paths.Given as goal

abbrev pub invariant-loop-path : goal.invariant-loop-path
invariant-loop-path l = l.left ≡ l.room - sum_by (λ (path : Path). length path) (take l.path-index l.paths)
