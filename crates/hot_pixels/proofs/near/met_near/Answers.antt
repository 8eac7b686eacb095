use Rattle.std.proofs.Common.{◌≤◌, ◌∙◌, sym, arith, pos, length}
use Rattle.plane_model.specs.Points.{GridPoint}
use Rattle.hot_pixels.proofs.NearLemmas.{none_met}
use Rattle.hot_pixels.proofs.near.met_near.Goals as goal

pub add_between-requires-clause-met : goal.add_between-requires-clause-met
add_between-requires-clause-met c =
    let d : GridPoint = record { x = pos 0; y = pos 0 } in
    let next = c.next_place-at.ensures in
    let stop_in = next.stop in
    let end_in = next.within in
    let from_in : c.next_place-at.result.from ≤ length c.args.points.now = omega arith in
    c.loop-step.invariant.1 ∙ sym (none_met c.args.s.now c.args.points.now d c.loop-step.at.stop c.next_place-at.result.from next.from from_in next.passed)
