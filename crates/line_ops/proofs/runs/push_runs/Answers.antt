use Rattle.std.proofs.Common.{◌∙◌, ◌++◌, ◌+◌, sym, drop}
use Rattle.line_ops.specs.Inside.{is_kept}
use Rattle.line_ops.specs.Runs.{runs_after}
use Rattle.line_ops.proofs.RunLemmas.{run_goes_on, run_ends}
use Rattle.line_ops.proofs.runs.push_runs.Goals.{then-is_kept+in_ok-push, else-is_kept+in_ok-push_run}
use Rattle.line_ops.proofs.runs.push_runs.Goals as goal

pub loop-a-preserved : goal.loop-a-preserved
loop-a-preserved c =
    let test = is_kept c.args.keeps c.args.f.now c.args.cut_set.now in
    let path = c.args.path.now in
    let i = c.loop-a.a-index in
    let a = c.a-item.result in
    elim c.if-is_kept.branch [
      | then-is_kept+in_ok-push w ↦
          (λ j. w.runs-is j ++ runs_after test ((w.begun-is ∙ w.in_ok-push.ensures.ok) j) (drop (i + 1) path))
          ∙ run_goes_on test path c.loop-a.begun c.loop-a.runs i a a c.loop-a-test.true c.a-item.is (sym c.is_kept.ensures.exact ∙ w.if-is_kept.true) ∙ c.loop-a.invariant
      | else-is_kept+in_ok-push_run w ↦
          (λ j. (w.runs-is ∙ w.in_ok-push_run.ensures.ok) j ++ runs_after test ((w.begun-is ∙ w.new-begun-else-is_kept.ensures.empty) j) (drop (i + 1) path))
          ∙ run_ends test path c.loop-a.begun c.loop-a.runs i a a c.loop-a-test.true c.a-item.is (sym c.is_kept.ensures.exact ∙ w.if-is_kept.false) ∙ c.loop-a.invariant
    ]
