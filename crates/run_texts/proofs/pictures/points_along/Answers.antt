use Rattle.run_texts.proofs.Along.{along_next}
use Rattle.run_texts.proofs.pictures.points_along.Goals as goal

pub loop-arc-preserved : goal.loop-arc-preserved
loop-arc-preserved c =
    record {
      along = along_next c.args.arcs.now c.args.path.now c.loop-arc.arc-index c.arc-item.result c.loop-arc.points c.append_arc.new.points c.loop-arc.invariant.along c.loop-arc.invariant.some c.loop-arc-test.true c.arc-item.is c.in_ok-append_arc.ensures.exact;
      some = λ h. c.in_ok-append_arc.ensures.some;
    }
