use Rattle.std.proofs.Common.{◌≡◌, ◌∙◌, sym, subst, inl, inr, arith, ℕ, false, get_or}
use Rattle.std.proofs.lemmas.Bool.{cases_lt}
use Rattle.face_groups.proofs.Runs.{run_begins, run_ends}
use Rattle.face_groups.proofs.grouping.end_of_run.Goals as goal

pub loop-i-init : goal.loop-i-init
loop-i-init g c = run_begins (g.K.FaceKeys.comes_before c.args.keys.now) c.requires.ordered c.args.faces.now c.requires.in_order c.args.first c.requires.place

pub loop-i-preserved : goal.loop-i-preserved
loop-i-preserved g c = λ k past below.
    let before = g.K.FaceKeys.comes_before c.args.keys.now in
    let faces = c.args.faces.now in
    let i = c.loop-i.i in
    elim (cases_lt k i) [
      | inl less ↦ c.loop-i.invariant k past less
      | inr more ↦ (let same : i ≡ k = omega arith in
          subst (λ (j : ℕ). before (get_or faces c.args.first 0) (get_or faces j 0) ≡ false) same (sym c.comes_before.ensures.exact ∙ c.if-comes_before.false))
    ]

pub returns-then-comes_before : goal.returns-then-comes_before
returns-then-comes_before g c =
    let end = c.loop-i.auto.i-end in
    let start = c.loop-i.auto.i in
    let test = c.loop-i-test.true in
    record {
      run = run_ends (g.K.FaceKeys.comes_before c.args.keys.now) c.requires.ordered c.args.faces.now c.requires.in_order c.args.first c.loop-i.i (omega arith) (omega arith) c.loop-i.invariant
          (sym c.comes_before.ensures.exact ∙ c.if-comes_before.true);
    }
