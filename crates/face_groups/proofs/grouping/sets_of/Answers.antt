use Rattle.std.proofs.Common.{◌∙◌, sym, subst, arith, ℕ, List, Contains}
use Rattle.std.proofs.lemmas.List.{get_or_default}
use Rattle.face_groups.specs.Groups.{AreKeySets}
use Rattle.face_groups.proofs.Runs.{StandsIn, sets_of_same, sets_of_none, sets_more, split_after}
use Rattle.face_groups.proofs.grouping.sets_of.Goals as goal

pub loop-first-init : goal.loop-first-init
loop-first-init g c =
    let before = g.K.FaceKeys.comes_before c.args.keys.now in
    let faces = c.args.faces.now in (
      omega arith,
      λ i j l past there. absurd (omega arith),
      subst (λ (sets : List (List ℕ)). AreKeySets (StandsIn faces 0 0) before sets) (sym c.new-sets.ensures.empty) (sets_of_none (StandsIn faces 0 0) before (λ k (i, low, below, there, is). omega arith)),
    )

pub loop-first-smaller : goal.loop-first-smaller
loop-first-smaller g c =
    let run = c.end_of_run-end.ensures.run in
    let some = run.some in
    let within = run.within in
    omega arith

pub loop-first-preserved : goal.loop-first-preserved
loop-first-preserved g c =
    let before = g.K.FaceKeys.comes_before c.args.keys.now in
    let faces = c.args.faces.now in
    let first = c.loop-first.first in
    let end = c.end_of_run-end.result in
    let run = c.end_of_run-end.ensures.run in
    let split = c.loop-first.invariant.1 in (
      run.within,
      split_after before c.requires.ordered faces c.requires.in_order first end split run,
      subst (λ (sets : List (List ℕ)). AreKeySets (StandsIn faces 0 end) before sets) (sym c.in_ok-push.ensures.ok)
          (sets_more before c.requires.ordered faces c.requires.in_order first end run c.loop-first.sets c.in_ok-set_between.field-0 c.in_ok-set_between.ensures.exact split c.loop-first.invariant.2),
    )

pub returns : goal.returns
returns g c =
    let faces = c.args.faces.now in
    let first = c.loop-first.first in
    let done = c.loop-first-test.false in
    let within = c.loop-first.invariant.0 in
    record {
      exact = sets_of_same (StandsIn faces 0 first) (Contains faces) (g.K.FaceKeys.comes_before c.args.keys.now) c.loop-first.sets
          (λ k (i, low, below, there, is). (i, there, get_or_default faces i k 0 there ∙ is))
          (λ k (i, there, is). (i, omega arith, omega arith, there, get_or_default faces i 0 k there ∙ is)) c.loop-first.invariant.2;
    }
