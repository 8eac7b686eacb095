use Rattle.std.proofs.Common.{◌≡◌, ◌∙◌, ap, sym, subst, arith, ℕ, ◌+◌, ◌<◌, [], List, length, set}
use Rattle.std.specs.List.Sorted.{IsStrictlyIncreasing}
use Rattle.std.proofs.lemmas.List.{length-replicate, length-set}
use Rattle.face_walk.specs.Holders.{AreOwnersOf, AreOwnersOfEach, list_at}
use Rattle.face_walk.proofs.HeldLemmas.{owned_put}
use Rattle.face_walk.proofs.labels.owner_lists.Goals as goal

pub loop-number-init : goal.loop-number-init
loop-number-init c = record {
  each = ap length c.in_ok-lists.ensures.exact ∙ length-replicate c.args.count [];
  owned = λ f l. absurd (omega arith);
}

pub list_owners-requires-clause-rising : goal.list_owners-requires-clause-rising
list_owners-requires-clause-rising c =
    let polygons = c.args.polygons.now in
    let test = c.loop-number-test.true in
    let made = c.new-face.ensures.made in
    let there : c.new-face.result < length polygons = omega (arith, test, made, c.requires.each) in
    subst (λ (xs : List ℕ). IsStrictlyIncreasing xs) (sym c.at.ensures.exact) (c.requires.rising c.new-face.result [] there)

pub loop-number-preserved : goal.loop-number-preserved
loop-number-preserved c =
    let owners = c.args.owners.now in
    let polygons = c.args.polygons.now in
    let number = c.loop-number.number in
    let face : c.new-face.result ≡ number = c.new-face.ensures.made in
    let lists = c.loop-number.lists in
    let features = c.list_owners.new.features.items in
    let each = c.loop-number.invariant.each in
    let test = c.loop-number-test.true in
    let there : number < length lists = omega (arith, each, test) in
    let here : AreOwnersOf owners (list_at polygons number) features =
    subst (λ (xs : List ℕ). AreOwnersOf owners xs features) (c.at.ensures.exact ∙ ap (list_at polygons) face) c.in_ok-list_owners.ensures.exact in
    let put : c.put.new.self ≡ set lists number features = c.in_ok-put.ensures.ok ∙ (λ i. set lists (face i) (c.deref.ensures.value i)) in
    record {
      each = ap length put ∙ length-set lists number features ∙ each;
      owned = subst (AreOwnersOfEach owners (number + 1) polygons) (sym put) (owned_put owners polygons lists number features there c.loop-number.invariant.owned here);
    }
