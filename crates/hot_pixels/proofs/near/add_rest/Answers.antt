use Rattle.std.proofs.Common.{◌≤◌, ◌∙◌, sym, subst, arith, pos, length}
use Rattle.plane_model.specs.Points.{GridPoint}
use Rattle.hot_pixels.specs.declared.near.Place.{Place}
use Rattle.hot_pixels.proofs.NearLemmas.{GoesOn, none_met}
use Rattle.hot_pixels.proofs.near.add_rest.Goals.{then-at-lt-ASKING, else-at-lt-ASKING}
use Rattle.hot_pixels.proofs.near.add_rest.Goals as goal

pub add_between-requires-clause-met : goal.add_between-requires-clause-met
add_between-requires-clause-met c =
    let d : GridPoint = record { x = pos 0; y = pos 0 } in
    let on : Place → Type 0 = λ (at : Place). GoesOn c.args.s.now c.args.points.now c.loop-step.at.stop at.from at.stop in
    let at = c.if-at-lt-ASKING.at in
    let next : on at = elim c.if-at-lt-ASKING.branch [
      | then-at-lt-ASKING w ↦ subst on (sym w.at-is) (let e = w.next_place-at.ensures in record { onward = e.from; ordered = e.stop; within = e.within; passed = e.passed })
      | else-at-lt-ASKING w ↦ subst on (sym w.at-is) (let e = w.next_asked-at.ensures in record { onward = e.from; ordered = e.stop; within = e.within; passed = e.passed })
    ] in
    let stop_in = next.ordered in
    let end_in = next.within in
    let from_in : at.from ≤ length c.args.points.now = omega arith in
    c.loop-step.invariant.1 ∙ sym (none_met c.args.s.now c.args.points.now d c.loop-step.at.stop at.from next.onward from_in next.passed)
