use Rattle.std.proofs.Common.{◌≡◌, ◌∙◌, List}
use Rattle.std.proofs.lemmas.List.Filters.{dedup_is}
use Rattle.std.proofs.lemmas.Result.{IfOk-weaker}
use Rattle.lists.specs.Lists.{ascending}
use Rattle.plane_model.specs.Points.{Segment, link_before}
use Rattle.snap_round.proofs.LinkOrder.{equal_links, sorted_links_ascend}
use Rattle.snap_round.proofs.links.links_in_order.Goals as goal

pub returns : goal.returns
returns c =
    let made = c.args.found.items in
    let sorted = c.sort_unstable.new.self.items in
    let is = dedup_is equal_links _ _ c.dedup.ensures.filtered ∙ sorted_links_ascend made sorted c.sort_unstable.ensures.permutation c.sort_unstable.ensures.sorted in
    record {
      exact = IfOk-weaker _ (λ (links : List Segment). links ≡ c.shrink_to_fit.new.self.items) (λ (links : List Segment). links ≡ ascending link_before made) (λ links e. e ∙ c.shrink_to_fit.ensures.items ∙ is) c.from_vec.ensures.same;
    }
