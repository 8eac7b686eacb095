use Rattle.std.proofs.Common.{◌++◌, ◌∷◌, [], List, length, ap, sym, subst, ◌∙◌, append_assoc, arith, option_copied}
use Rattle.std.specs.List.{AllZip}
use Rattle.std.specs.Vec.Iter.{into_iter_items}
use Rattle.run_steps.specs.Commands.{IsTitled}
use Rattle.run_plane.specs.declared.layer.Layer.{Layer}
use Rattle.run_plane.proofs.Growth.{zipped_on}
use Rattle.run_steps.proofs.outputs.all_titled.Goals as goal

pub loop-layer-preserved : goal.loop-layer-preserved
loop-layer-preserved c =
    let R = IsTitled (option_copied c.args.name) in
    let steps = c.in-Some.ensures.steps in
    let kept = c.loop-layer.invariant in
    let taken : List Layer = kept.1.0 in
    let layer = c.in-Some.layer in
    let rest = into_iter_items c.next.new.self in
    let all = append_assoc taken (layer ∷ []) rest ∙ (ap (λ (xs : List Layer). taken ++ xs) (sym steps.0) ∙ kept.1.1) in
    let pairs = zipped_on R taken c.loop-layer.all.items layer c.in_ok-titled.field-0 kept.1.2 c.in_ok-titled.ensures.titled in
    (omega (arith, kept.0, steps.1, ap length steps.0), (taken ++ layer ∷ [], all, subst (AllZip R (taken ++ layer ∷ [])) (sym c.in_ok-push.ensures.items) pairs))
