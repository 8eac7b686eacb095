use Rattle.std.proofs.Common.{rules, ◌≡◌, ◌∙◌, sym, subst, List}
use Rattle.std.specs.List.Sorted.{IsSortedByKey}
use Rattle.std.specs.Ordering.{int_cmp}
use Rattle.std.proofs.lemmas.Fn.{always_returns_same}
use Rattle.std.proofs.lemmas.Result.{IfOk-weaker}
use Rattle.plane_model.specs.Points.{GridPoint}
use Rattle.plane_model.specs.Hot.{order_key}
use Rattle.hot_pixels.specs.Chains.{AreSortedAlong}
use Rattle.hot_pixels.proofs.chains.sorted_along.Goals as goal

pub returns : goal.returns
returns c =
    let s = c.args.s.now in
    let met = c.args.met.items in
    let in_order : IsSortedByKey (order_key s) int_cmp c.sort_unstable_by_key.new.self.items = c.sort_unstable_by_key.ensures.sorted (order_key s) (always_returns_same _ _ _ (λ a r q k. search rules)) in
    let h : AreSortedAlong s met c.sort_unstable_by_key.new.self.items = record { moved = c.sort_unstable_by_key.ensures.permutation; in_order = in_order } in
    record { made = IfOk-weaker _ (λ (list : List GridPoint). list ≡ c.deref.result.now) (AreSortedAlong s met) (λ list e. subst (AreSortedAlong s met) (sym (e ∙ c.deref.ensures.value)) h) c.list_of.ensures.exact }
