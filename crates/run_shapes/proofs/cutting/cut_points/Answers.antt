use Rattle.run_shapes.proofs.Cuts.{points_more}
use Rattle.run_shapes.proofs.cutting.cut_points.Goals as goal

pub loop-point-preserved : goal.loop-point-preserved
loop-point-preserved c =
    points_more c.args.keeps c.args.plane.now c.args.cut_set.now c.as_slice-point-items.result.now c.loop-point.left c.loop-point.point-index c.point-item.result c.stays.result c.push_if.new.points
    c.loop-point-test.true c.point-item.is c.loop-point.invariant c.stays.ensures.exact c.in_ok-push_if.ensures.pushed
