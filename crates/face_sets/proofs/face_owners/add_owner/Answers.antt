use Rattle.std.proofs.Common.{◌∙◌, sym, subst, ℕ, ◌+◌, List, map, take}
use Rattle.face_sets.specs.Owners.{IsNumbered}
use Rattle.face_sets.proofs.OwnerLemmas.{numbered_more}
use Rattle.face_sets.proofs.face_owners.add_owner.Goals as goal

pub loop-face-preserved : goal.loop-face-preserved
loop-face-preserved c =
    let old : List (List ℕ) = map (λ list. list.items) c.args.lists.now.items in
    subst (λ (lists : List (List ℕ)). IsNumbered c.args.n (take (c.loop-face.face-index + 1) c.args.faces.now) old lists) (sym c.in_ok-put_number.ensures.put)
    (numbered_more c.args.n c.loop-face.face-index c.num.result c.face-item.result c.args.faces.now old (map (λ list. list.items) c.loop-face.lists.items)
    c.requires c.loop-face-test.true (c.num.ensures.exact ∙ c.face-item.is) c.loop-face.invariant)
