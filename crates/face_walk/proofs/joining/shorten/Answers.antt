use Rattle.std.proofs.Common.{◌≡◌, ◌∙◌, refl, sym, ap, ℕ, List, ◌<◌, ◌≤◌, arith, get_or, length-set}
use Rattle.face_walk.specs.Joining.{least_numbers}
use Rattle.face_walk.proofs.JoiningLemmas.{least_next, least_own, set_down, shortened}
use Rattle.face_walk.proofs.joining.shorten.Goals as goal

pub loop-lesser-preserved : goal.loop-lesser-preserved
loop-lesser-preserved c =
    let lesser = c.loop-lesser.lesser in
    let at = c.loop-lesser.at in
    let over = get_or lesser at 0 in
    let next = get_or lesser over 0 in
    let (there, within, down, same, one) = c.loop-lesser.invariant in
    let d : over ≤ at = down at there in
    let t = c.loop-lesser-test.true in
    let less : over < at = omega arith in
    let e : next ≤ over = down over (omega arith) in
    let n = length-set lesser at next in
    let way : get_or (least_numbers lesser) at 0 ≡ get_or (least_numbers lesser) next 0 = least_next lesser at down there ∙ least_next lesser over down (omega arith) in (
      omega arith,
      omega arith,
      set_down lesser at next down (omega arith),
      shortened lesser at over next down there refl refl less ∙ same,
      sym (ap (λ (xs : List ℕ). get_or xs next 0) same) ∙ sym way ∙ ap (λ (xs : List ℕ). get_or xs at 0) same ∙ one,
    )

pub returns-clause-exact : goal.returns-clause-exact
returns-clause-exact c =
    let (there, within, down, same, one) = c.loop-lesser.invariant in
    sym (least_own c.loop-lesser.lesser c.loop-lesser.at there c.loop-lesser-test.false) ∙ ap (λ (xs : List ℕ). get_or xs c.loop-lesser.at 0) same ∙ one
