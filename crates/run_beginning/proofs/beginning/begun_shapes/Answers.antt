use Rattle.std.proofs.Common.{◌++◌, ◌∷◌, [], ◌∙◌, ap, arith, length, length-append}
use Rattle.std.specs.Vec.Iter.{into_iter_items}
use Rattle.lists.specs.Lists.{first_or}
use Rattle.run_beginning.proofs.BegunLemmas.{items_left, shapes_more}
use Rattle.run_beginning.proofs.beginning.begun_shapes.Goals as goal

pub loop-number-preserved : goal.loop-number-preserved
loop-number-preserved g c =
    let all = into_iter_items c.args.features.now in
    let left = into_iter_items c.loop-number.features in
    let next = c.next_or-feature in
    let rest = into_iter_items next.new.items in
    let begun = c.loop-number.begun.items in
    let invariant = c.loop-number.invariant in
    let more = c.in_ok-push.ensures.items ∙ ap (λ shape. begun ++ shape ∷ []) c.into_shape.ensures.exact in
    record {
      each = omega (arith, ap length more, length-append begun (g.T.IntoShape.shape next.result ∷ []), invariant.each);
      begun = more ∙ shapes_more g.T.IntoShape.shape g.T.IntoShape.nothing all left c.loop-number._number next.result begun invariant.begun invariant.left (next.ensures.first ∙ ap (λ none. first_or none left) c.nothing.ensures.exact);
      left = items_left all left rest c.loop-number._number invariant.left next.ensures.rest;
      count = next.ensures.count;
    }
