use Rattle.std.proofs.Common.{◌≡◌, ◌++◌, drop}
use Rattle.line_ops.specs.Inside.{is_kept}
use Rattle.line_ops.specs.Runs.{runs_after, runs_where}
use Rattle.line_ops.proofs.runs.push_runs.Given as goal

abbrev pub invariant-loop-a : goal.invariant-loop-a
invariant-loop-a l = l.runs ++ runs_after (is_kept l.keeps l.f l.cut_set) l.begun (drop l.a-index l.path) ≡ l.fn.runs ++ runs_where (is_kept l.keeps l.f l.cut_set) l.path
