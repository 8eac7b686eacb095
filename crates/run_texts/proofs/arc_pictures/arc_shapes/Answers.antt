use Rattle.std.proofs.Common.{◌∷◌, ◌+◌, [], All, ap, arith, length, length-append, subst, sym, take}
use Rattle.std.specs.List.{AllZip}
use Rattle.std.proofs.lemmas.List.Elements.{All-push}
use Rattle.topo_io.specs.Arcs.{ShapeIsBelow}
use Rattle.run_texts.specs.Tracing.{IsTraced}
use Rattle.run_plane.proofs.Growth.{zipped_next}
use Rattle.run_texts.proofs.arc_pictures.arc_shapes.Goals as goal

pub loop-shape-preserved : goal.loop-shape-preserved
loop-shape-preserved c =
    let i = c.loop-shape.shape-index in
    let traced = c.in_ok-arc_shape.field-0 in
    let below = ShapeIsBelow (length c.args.plane.now.arcs) in
    let traces = IsTraced c.args.plane.now in
    record {
      count = omega (arith, ap length c.in_ok-push.ensures.ok, length-append c.loop-shape.traced (traced ∷ []), c.loop-shape.invariant.count);
      below = subst (All below) (sym c.in_ok-push.ensures.ok) (All-push below c.loop-shape.traced traced c.loop-shape.invariant.below c.in_ok-arc_shape.ensures.below);
      traced = subst (AllZip traces (take (i + 1) c.args.shapes.now)) (sym c.in_ok-push.ensures.ok)
          (zipped_next traces c.args.shapes.now i c.shape-item.result c.loop-shape.traced traced c.loop-shape-test.true c.shape-item.is c.loop-shape.invariant.traced c.in_ok-arc_shape.ensures.traced);
    }
