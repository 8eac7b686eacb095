use Rattle.std.proofs.Common.{◌≡◌, ◌∙◌, sym, subst, Some, FitsSigned, to_z-of_z, rules}
use Rattle.std.specs.Int.{w64}
use Rattle.std.specs.Prelude.{slice_get}
use Rattle.std.proofs.lemmas.Result.{IfOk-weaker}
use Rattle.link_search.specs.Parting.{LeadsToAll, parts_of, sides, levels}
use Rattle.link_search.specs.declared.link_tree.LinkTree.{LinkTree}
use Rattle.link_search.proofs.TreeLemmas.{sides_lead, levels_lead}
use Rattle.link_search.proofs.link_tree.+tree_of.Goals as goal

pub returns-in_ok-right-in-Some-At : goal.returns-in_ok-right-in-Some-At
returns-in_ok-right-in-Some-At t c =
    let links = c.args.links.now in
    let near = c.args.near.now in
    let x = c.in-Some-At.x in
    let left = c.in_ok-left-in-Some-At.left in
    let right = c.in_ok-right-in-Some-At.right in
    let x_fits : FitsSigned w64 x = search rules in
    let left_is = simp to_z-of_z at c.in_ok-starting-in-Some-At.ensures.exact in
    let right_is = simp to_z-of_z at c.in_ok-stopping-in-Some-At.ensures.exact in
    record {
      leads = IfOk-weaker c.beside.result (λ (tree : LinkTree). parts_of tree ≡ sides x (parts_of left) (parts_of right)) (λ (tree : LinkTree). LeadsToAll links near (parts_of tree))
          (λ tree e. subst (LeadsToAll links near) (sym e)
          (sides_lead links near x c.deref.result.now c.deref-in-Some-At.result.now (parts_of left) (parts_of right)
          (c.deref.ensures.value ∙ left_is)
          (c.deref-in-Some-At.ensures.value ∙ right_is)
          c.in_ok-left-in-Some-At.ensures.leads c.in_ok-right-in-Some-At.ensures.leads)) (simp to_z-of_z at c.beside.ensures.exact);
    }

pub returns-in_ok-higher-in-Some-Along : goal.returns-in_ok-higher-in-Some-Along
returns-in_ok-higher-in-Some-Along t c =
    let links = c.args.links.now in
    let near = c.args.near.now in
    let j = c.in-Some-Along.j in
    let l = c.in-Some.l in
    let lower = c.in_ok-lower-in-Some-Along.lower in
    let higher = c.in_ok-higher-in-Some-Along.higher in
    let at_j : slice_get links j ≡ Some l = let e = c.in-Some.is in let f = c.link_at.ensures.exact in cc in
    record {
      leads = IfOk-weaker c.over_link.result (λ (tree : LinkTree). parts_of tree ≡ levels j (parts_of lower) (parts_of higher)) (λ (tree : LinkTree). LeadsToAll links near (parts_of tree))
          (λ tree e. subst (LeadsToAll links near) (sym e)
          (levels_lead links near j l c.deref-in-Some-Along.result.now c.deref-in-Some-Along-2.result.now (parts_of lower) (parts_of higher) at_j
          (c.deref-in-Some-Along.ensures.value ∙ c.in_ok-under-in-Some-Along.ensures.exact)
          (c.deref-in-Some-Along-2.ensures.value ∙ c.in_ok-over-in-Some-Along.ensures.exact)
          c.in_ok-lower-in-Some-Along.ensures.leads c.in_ok-higher-in-Some-Along.ensures.leads)) c.over_link.ensures.exact;
    }
