use Rattle.std.proofs.Common.{ℕ, List, length, sym, subst}
use Rattle.arc_table.specs.Steps.{AreLinks, AreMutual}
use Rattle.arc_table.proofs.Proper.{proper_steps}
use Rattle.arc_table.proofs.Onward.{mutual_twins, both_ways, none_back}
use Rattle.arc_table.proofs.StepSearch.{both_of}
use Rattle.arc_table.proofs.half_links.Net.of.Goals as goal

pub twins_of-requires-clause-both : goal.twins_of-requires-clause-both
twins_of-requires-clause-both c = both_of c.as_slice.result.now c.in_ok-merged.merged.steps c.in_ok-merged.ensures.exact

pub onward_of-requires-clause-mutual : goal.onward_of-requires-clause-mutual
onward_of-requires-clause-mutual c =
    let steps = c.in_ok-merged.merged.steps in
    let links : AreLinks c.as_slice.result.now = subst AreLinks (sym c.as_slice.ensures.all) c.requires.links in
    let twins = c.in_ok-twins.ensures in
    subst (λ (ts : List ℕ). AreMutual ts (length steps)) (sym c.deref-2.ensures.value)
    (mutual_twins steps c.in_ok-twins.twins.items (proper_steps c.as_slice.result.now links steps c.in_ok-merged.ensures.exact) twins.back twins.each twins.there)

pub invariant_of-result-clause-sorted : goal.invariant_of-result-clause-sorted
invariant_of-result-clause-sorted c = c.in_ok-merged.ensures.exact.sorted

pub invariant_of-result-clause-proper : goal.invariant_of-result-clause-proper
invariant_of-result-clause-proper c =
    let links : AreLinks c.as_slice.result.now = subst AreLinks (sym c.as_slice.ensures.all) c.requires.links in
    proper_steps c.as_slice.result.now links c.in_ok-merged.merged.steps c.in_ok-merged.ensures.exact

pub returns-clause-on : goal.returns-clause-on
returns-clause-on c = rw c.deref-2.ensures.value at c.in_ok-onward.ensures.on

pub invariant_of-result-clause-both_ways : goal.invariant_of-result-clause-both_ways
invariant_of-result-clause-both_ways c =
    both_ways c.in_ok-merged.merged.steps c.in_ok-twins.twins.items (invariant_of-result-clause-proper c) c.in_ok-twins.ensures.back c.in_ok-twins.ensures.each c.in_ok-twins.ensures.there c.args.turns.now c.in_ok-onward.onward.items c.in_ok-onward.ensures.each c.in_ok-onward.ensures.there (rw c.deref-2.ensures.value at c.in_ok-onward.ensures.on)

pub invariant_of-result-clause-none_back : goal.invariant_of-result-clause-none_back
invariant_of-result-clause-none_back c =
    none_back c.in_ok-merged.merged.steps c.in_ok-twins.twins.items (invariant_of-result-clause-proper c) c.in_ok-twins.ensures.back c.in_ok-twins.ensures.each c.in_ok-twins.ensures.there c.args.turns.now c.in_ok-onward.onward.items c.in_ok-onward.ensures.each c.in_ok-onward.ensures.there (rw c.deref-2.ensures.value at c.in_ok-onward.ensures.on)
