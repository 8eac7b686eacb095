use Rattle.std.proofs.Common.{List, All, subst}
use Rattle.link_search.specs.Parting.{AreTreesOver}
use Rattle.link_search.specs.Topmost.{HasGridEnds}
use Rattle.link_search.specs.declared.links.ArcLink.{ArcLink}
use Rattle.link_search.proofs.search.LinkSearch.of.Goals as goal

pub invariant_of-result-clause-on_grid : goal.invariant_of-result-clause-on_grid
invariant_of-result-clause-on_grid c = subst (λ (links : List ArcLink). All HasGridEnds links) c.deref.ensures.value c.in_ok-buckets.ensures.told

pub invariant_of-result-clause-sorted : goal.invariant_of-result-clause-sorted
invariant_of-result-clause-sorted c = c.requires.sorted

pub invariant_of-result-clause-led : goal.invariant_of-result-clause-led
invariant_of-result-clause-led c =
    ∣ subst (λ (links : List ArcLink). AreTreesOver links c.in_ok-buckets.buckets.near c.in_ok-trees.trees.items) c.deref-2.ensures.value c.in_ok-trees.ensures.led ∣₁
