use Rattle.std.proofs.Common.{rules, ◌/◌, ◌<◌, ℕ, length, arith}
use Rattle.std.specs.List.Sorted.{IsSortedByKey}
use Rattle.std.proofs.lemmas.Fn.{always_returns_same}
use Rattle.std.proofs.lemmas.List.Sorted.{All-permutation, IsPermutation-map, length_permutation}
use Rattle.arc_table.specs.StepCodes.{step_of}
use Rattle.arc_table.specs.Steps.{step_cmp}
use Rattle.arc_table.proofs.StepCodes.{sorted_steps}
use Rattle.arc_table.proofs.step_list.StepList.in_order.Goals as goal

pub invariant_of-result : goal.invariant_of-result
invariant_of-result c =
    let codes = c.args.codes.items in
    let sorted = c.sort_unstable_by_key.new.self.items in
    let moved = c.sort_unstable_by_key.ensures.permutation in
    let many = length_permutation codes sorted moved in
    let few = c.requires.few in (
      All-permutation (λ (code : ℕ). code / 2 < length c.args.links.now) codes sorted moved c.requires.there,
      omega arith,
    )

pub returns-clause-same : goal.returns-clause-same
returns-clause-same c = IsPermutation-map (step_of c.args.links.now) c.args.codes.items c.sort_unstable_by_key.new.self.items c.sort_unstable_by_key.ensures.permutation

pub returns-clause-sorted : goal.returns-clause-sorted
returns-clause-sorted c =
    let links = c.args.links.now in
    let codes = c.sort_unstable_by_key.new.self.items in
    let in_order : IsSortedByKey (step_of links) step_cmp codes = c.sort_unstable_by_key.ensures.sorted (step_of links) (always_returns_same _ _ _ (λ a r q k. search rules)) in
    sorted_steps links codes in_order
