use Rattle.std.proofs.Common.{◌≤◌, arith, pos, length}
use Rattle.plane_model.specs.Points.{GridPoint}
use Rattle.hot_pixels.proofs.NearLemmas.{none_counted}
use Rattle.hot_pixels.proofs.near.count_near.Goals as goal

pub loop-step-preserved : goal.loop-step-preserved
loop-step-preserved c =
    let d : GridPoint = record { x = pos 0; y = pos 0 } in
    let next = c.next_place-at.ensures in
    let stop_in = next.stop in
    let end_in = next.within in
    let from_in : c.next_place-at.result.from ≤ length c.args.points.now = omega arith in
    let before = c.loop-step.invariant.1 in
    let passed = none_counted c.args.s.now c.args.points.now d c.loop-step.at.stop c.next_place-at.result.from next.from from_in next.passed in
    let counted = c.count_between-count.ensures.exact in
    (next.within, omega arith)
