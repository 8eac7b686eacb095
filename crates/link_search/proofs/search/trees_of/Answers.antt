use Rattle.std.proofs.Common.{◌≡◌, ◌∙◌, [], ◌∷◌, ◌++◌, ◌+◌, ap, sym, subst, ℕ, List, Option, length, length-append}
use Rattle.std.specs.Prelude.{slice_get}
use Rattle.link_search.specs.Parting.{AreTreesOver}
use Rattle.link_search.specs.declared.link_tree.LinkTree.{LinkTree}
use Rattle.link_search.proofs.TreeLemmas.{one_more_tree}
use Rattle.link_search.proofs.search.trees_of.Goals as goal

pub loop-place-preserved : goal.loop-place-preserved
loop-place-preserved c =
    let links = c.args.links.now in
    let lists = c.args.buckets.now.near in
    let trees : List (Option LinkTree) = c.loop-place.trees.items in
    let found : Option LinkTree = c.in_ok-tree_at.field-0 in
    let longer : List (Option LinkTree) = c.push.new.self.items in
    let count = c.loop-place.invariant.count in
    let pushed : longer ≡ trees ++ found ∷ [] = c.in_ok-push.ensures.items in
    record {
      count = ap (λ (xs : List (Option LinkTree)). length xs) pushed ∙ length-append trees (found ∷ []) ∙ ap (λ (n : ℕ). n + 1) count;
      over = subst (λ (xs : List (Option LinkTree)). AreTreesOver links lists xs) (sym pushed)
          (one_more_tree links lists trees found c.loop-place.invariant.over (λ tree numbers e f. c.in_ok-tree_at.ensures.leads tree numbers e (ap (λ (n : ℕ). slice_get lists n) (sym count) ∙ f)));
    }
