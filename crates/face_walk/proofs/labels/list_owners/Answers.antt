use Rattle.std.proofs.Common.{sym, subst, get_or, ◌+◌, take}
use Rattle.std.proofs.lemmas.List.{get_or_default}
use Rattle.face_walk.specs.Holders.{AreOwnersOf}
use Rattle.face_walk.proofs.OddLemmas.{owners_low, owners_with, owners_without}
use Rattle.face_walk.proofs.labels.list_owners.Goals.{in-Some+in_ok-put_owner, in_default}
use Rattle.face_walk.proofs.labels.list_owners.Goals as goal

pub put_owner-requires-clause-low : goal.put_owner-requires-clause-low
put_owner-requires-clause-low c =
    let items = c.args.items.now in
    let k = c.loop-i.i-index in
    let i = get_or items k 0 in
    owners_low c.args.owners.now items c.loop-i.features.items k i c.in-Some.owner c.requires.owners c.requires.rising c.loop-i-test.true (get_or_default items k i 0 c.loop-i-test.true) (sym c.in-Some.ensures.exact) c.loop-i.invariant

pub loop-i-preserved : goal.loop-i-preserved
loop-i-preserved c =
    let owners = c.args.owners.now in
    let items = c.args.items.now in
    let k = c.loop-i.i-index in
    let i = get_or items k 0 in
    let here = get_or_default items k i 0 c.loop-i-test.true in
    let features = c.loop-i.features.items in
    elim c.match-owner_of.branch [
      | in-Some+in_ok-put_owner w ↦
          subst (λ v. AreOwnersOf owners (take (k + 1) items) v.items) (sym w.features-is)
          (owners_with owners items features w.put_owner.new.features.items k i w.in-Some.owner c.loop-i-test.true here (sym w.in-Some.ensures.exact) c.loop-i.invariant w.in_ok-put_owner.ensures.put)
      | in_default w ↦ subst (λ v. AreOwnersOf owners (take (k + 1) items) v.items) (sym w.features-is) (owners_without owners items features k i c.loop-i-test.true here (sym w.in_default.ensures.exact) c.loop-i.invariant)
    ]
