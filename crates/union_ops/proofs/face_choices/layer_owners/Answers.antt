use Rattle.std.proofs.Common.{◌∙◌, sym, subst, ℕ, ◌+◌, List, take}
use Rattle.std.proofs.lemmas.List.{take_all}
use Rattle.union_ops.specs.Choices.{AreLayerOwners}
use Rattle.union_ops.proofs.ChoiceLemmas.{layers_more}
use Rattle.union_ops.proofs.face_choices.layer_owners.Goals as goal

pub loop-sets-preserved : goal.loop-sets-preserved
loop-sets-preserved c =
    let layers = c.as_slice-sets-items.result.now in
    let i = c.loop-sets.sets-index in
    let sets = c.sets-item.result in
    subst (AreLayerOwners (take (i + 1) layers) c.args.f.now.count) (sym c.in_ok-push.ensures.items)
    (layers_more layers c.args.f.now.count i sets sets c.loop-sets.owners.items c.in_ok-of.field-0 c.loop-sets-test.true c.sets-item.is c.loop-sets.invariant c.in_ok-of.ensures.exact)

pub returns : goal.returns
returns c =
    record {
      made = subst (λ (layers : List (List (List ℕ))). AreLayerOwners layers c.args.f.now.count c.loop-sets.owners.items)
          (take_all c.loop-sets.sets-index c.as_slice-sets-items.result.now c.loop-sets-test.false ∙ c.as_slice-sets-items.ensures.all) c.loop-sets.invariant;
    }
