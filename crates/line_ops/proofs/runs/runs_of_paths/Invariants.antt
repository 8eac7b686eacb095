use Rattle.std.proofs.Common.{◌≡◌, take}
use Rattle.std.specs.List.{flat_map}
use Rattle.line_ops.specs.Inside.{is_kept}
use Rattle.line_ops.specs.Runs.{runs_where}
use Rattle.line_ops.proofs.runs.runs_of_paths.Given as goal

abbrev pub invariant-loop-path : goal.invariant-loop-path
invariant-loop-path l = l.runs ≡ flat_map (runs_where (is_kept l.keeps l.f l.cut_set)) (take l.path-index l.paths)
