use Rattle.std.proofs.Common.{◌+◌, List, [], ◌∷◌, length, take, sym, ap, subst, arith, length-append}
use Rattle.std.specs.List.{AllZip}
use Rattle.std.proofs.lemmas.List.Elements.{All-push, all_zip_more}
use Rattle.run_plane.specs.OnPlane.{AreOn, IsOn}
use Rattle.run_shapes.specs.Cutting.{IsShapeLeft}
use Rattle.run_plane.specs.declared.layer.Shape.{Shape}
use Rattle.run_shapes.proofs.cutting.cut_shapes.Goals as goal

pub loop-shape-preserved : goal.loop-shape-preserved
loop-shape-preserved c =
    let R = IsShapeLeft c.args.keeps c.args.plane.now c.args.cut_set.now in
    let made = c.in_ok-cut_shape.field-0 in
    let old = c.loop-shape.left.items in
    record {
      exact = subst (λ (ss : List Shape). AllZip R (take (c.loop-shape.shape-index + 1) c.args.shapes.now) ss) (sym c.in_ok-push.ensures.items)
          (all_zip_more R c.args.shapes.now old c.loop-shape.shape-index c.shape-item.result made c.loop-shape-test.true c.shape-item.is c.loop-shape.invariant.exact c.in_ok-cut_shape.ensures.exact);
      on = subst (AreOn c.args.plane.now) (sym c.in_ok-push.ensures.items) (All-push (IsOn c.args.plane.now) old made c.loop-shape.invariant.on c.in_ok-cut_shape.ensures.on);
      count = omega (arith, ap length c.in_ok-push.ensures.items, length-append old (made ∷ []), c.loop-shape.invariant.count);
    }
