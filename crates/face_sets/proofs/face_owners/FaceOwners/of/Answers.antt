use Rattle.std.proofs.Common.{◌∙◌, subst, ap, arith, ℕ, List, get_or, map}
use Rattle.std.proofs.lemmas.List.{length-map}
use Rattle.face_sets.specs.Owners.{IsNumbered}
use Rattle.face_sets.proofs.OwnerLemmas.{owners_none, owners_more, owners_below}
use Rattle.face_sets.proofs.face_owners.FaceOwners.of.Goals as goal

pub loop-n-init : goal.loop-n-init
loop-n-init c =
    owners_none c.args.f.now.count (map (λ list. list.items) c.in_ok-lists.lists.items) (simp length-map (c.in_ok-lists.ensures.each ∙ c.count.ensures.exact)) c.in_ok-lists.ensures.empty

pub loop-n-preserved : goal.loop-n-preserved
loop-n-preserved c =
    let read = c.index-as_slice-n in
    let old : List (List ℕ) = map (λ list. list.items) c.loop-n.lists.items in
    let new : List (List ℕ) = map (λ list. list.items) c.add_owner.new.lists.items in
    owners_more c.args.sets.now c.args.f.now.count c.loop-n.n read.result read.result old new
    (let e = c.len-n-end.ensures.count in let l = c.loop-n-test.true in omega arith)
    (read.is ∙ ap (λ (sets : List (List ℕ)). get_or sets c.loop-n.n read.result) c.as_slice.ensures.all)
    c.loop-n.invariant
    (subst (λ (set : List ℕ). IsNumbered c.loop-n.n set old new) c.faces.ensures.all c.in_ok-add_owner.ensures.ok)

pub returns-clause-numbers : goal.returns-clause-numbers
returns-clause-numbers c = owners_below c.args.sets.now c.loop-n.n c.args.f.now.count (map (λ list. list.items) c.loop-n.lists.items) c.loop-n.invariant
