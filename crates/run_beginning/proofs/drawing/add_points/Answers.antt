use Rattle.std.proofs.Common.{◌≡◌, ◌∙◌, ap, arith, length, take}
use Rattle.plane_model.specs.Drawing.{Drawing}
use Rattle.grid_base.specs.Drawn.{add_item}
use Rattle.run_beginning.proofs.DrawingLemmas.{no_points, points_more, points_stay}
use Rattle.run_beginning.proofs.drawing.add_points.Goals as goal

pub loop-point-init : goal.loop-point-init
loop-point-init c = no_points c.args.drawing.now

pub add_point-requires : goal.add_point-requires
add_point-requires c =
    let done = take c.loop-point.point-index c.args.points.now in
    let e : length c.loop-point.drawing.points ≡ length c.args.drawing.now.points =
    ap (λ (d : Drawing). length d.points) c.loop-point.invariant ∙ points_stay done c.args.drawing.now in
    let l = c.requires in
    omega arith

pub loop-point-preserved : goal.loop-point-preserved
loop-point-preserved c =
    let point = c.point-item.result in
    c.in_ok-add_point.ensures.ok
    ∙ ap (λ (d : Drawing). record d { points = add_item point d.points }) c.loop-point.invariant
    ∙ points_more c.args.drawing.now c.args.points.now c.loop-point.point-index point (omega arith) c.point-item.is
