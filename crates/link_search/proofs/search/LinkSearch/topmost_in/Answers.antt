use Rattle.std.proofs.Common.{◌≡◌, ◌∙◌, sym, ap, subst, List, Option, Some}
use Rattle.std.specs.Prelude.{slice_get}
use Rattle.std.proofs.Math.Logic.{∥∥₁_elim}
use Rattle.std.proofs.lemmas.Option.{slice_get-get_or}
use Rattle.link_search.specs.Parting.{Leads, parts_of}
use Rattle.link_search.specs.declared.link_tree.LinkTree.{LinkTree}
use Rattle.link_search.specs.declared.links.ArcLink.{ArcLink}
use Rattle.link_search.proofs.TreeLemmas.{IsNotAbove-prop}
use Rattle.link_search.proofs.search.LinkSearch.topmost_in.Goals as goal

pub returns-in-Some-Some-clause-near : goal.returns-in-Some-Some-clause-near
returns-in-Some-Some-clause-near c = λ ids e i k there is b.
    let search = c.args.self.now in
    let p = c.args.p in
    let place = c.args.place in
    let tree : LinkTree = c.in-Some-Some.tree in
    let (_, here, _, (within, _), _) = c.in-Some-Some.ensures.lookup in
    let at : slice_get search.trees.items place ≡ Some (Some tree) =
    ap (λ (trees : List (Option LinkTree)). slice_get trees place) (sym c.deref.ensures.value)
    ∙ slice_get-get_or c.deref.result.now place c.in-Some-Some.field-0.now within
    ∙ ap Some (sym here ∙ c.in-Some-Some.field-0-is) in
    let same = c.deref-in-Some-Some.ensures.value in
    ∥∥₁_elim search.led (IsNotAbove-prop p k c.topmost_by.result)
    (λ over. c.topmost_by.ensures.led i k
    (subst (λ (links : List ArcLink). Leads links p i k (parts_of tree)) (sym same) ((over.all place tree ids at e).all p i k there is b))
    (ap (λ (links : List ArcLink). slice_get links i) same ∙ is) b)
