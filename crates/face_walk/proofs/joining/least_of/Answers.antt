use Rattle.std.proofs.Common.{◌∙◌, ◌≤◌, sym, arith, get_or}
use Rattle.face_walk.proofs.JoiningLemmas.{least_next, least_own}
use Rattle.face_walk.proofs.joining.least_of.Goals as goal

pub loop-at-preserved : goal.loop-at-preserved
loop-at-preserved c =
    let lesser = c.args.lesser.now in
    let at = c.loop-at.at in
    let there = c.loop-at.invariant.0 in
    let within = c.loop-at.invariant.1 in
    let down : get_or lesser at 0 ≤ at = c.requires.down at there in
    (omega arith, omega arith, sym (least_next lesser at c.requires.down there) ∙ c.loop-at.invariant.2)

pub returns-clause-exact : goal.returns-clause-exact
returns-clause-exact c = sym (least_own c.args.lesser.now c.loop-at.at c.loop-at.invariant.0 c.loop-at-test.false) ∙ c.loop-at.invariant.2
