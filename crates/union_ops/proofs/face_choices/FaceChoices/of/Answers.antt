use Rattle.std.proofs.Common.{◌≡◌, ◌∙◌, sym, subst, arith, ℕ, ◌+◌, ◌<◌, List, map, Option, Vec, Global}
use Rattle.std.proofs.lemmas.List.{map_push}
use Rattle.union_ops.specs.Choices.{Choice, AreChoices, choice_of, choice_among}
use Rattle.union_ops.proofs.ChoiceLemmas.{choices_more, among_is}
use Rattle.union_ops.proofs.face_choices.FaceChoices.of.Goals as goal

pub loop-n-preserved : goal.loop-n-preserved
loop-n-preserved c =
    let layers = c.args.layers.now in
    let count = c.args.f.now.count in
    let n = c.loop-n.n in
    let owners = c.in_ok-owners.owners.items in
    let items : Vec (Option ℕ) Global → Choice = λ (v : Vec (Option ℕ) Global). v.items in
    let choice = c.in_ok-choice_of.field-0 in
    let below : n < count = (let e = c.count-n-end.ensures.exact in let l = c.loop-n-test.true in omega arith) in
    let one : choice.items ≡ choice_of layers n =
    c.in_ok-choice_of.ensures.exact ∙ (λ i. choice_among (c.deref.ensures.value i) (c.new.ensures.made i)) ∙ among_is count n layers owners c.in_ok-owners.ensures.made below in
    subst (λ (lists : List (Vec (Option ℕ) Global)). AreChoices layers (n + 1) (map items lists)) (sym c.in_ok-push.ensures.items)
    (subst (AreChoices layers (n + 1)) (sym (map_push items c.loop-n.lists.items choice)) (choices_more layers n (map items c.loop-n.lists.items) choice.items c.loop-n.invariant one))
