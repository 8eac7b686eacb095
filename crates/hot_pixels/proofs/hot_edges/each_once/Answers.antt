use Rattle.std.proofs.Common.{◌∙◌}
use Rattle.std.proofs.lemmas.List.Filters.{dedup_is}
use Rattle.std.proofs.lemmas.List.Sorted.{IsPermutation-trans}
use Rattle.hot_pixels.proofs.SortLemmas.{equal_points, sorted_is_ascending}
use Rattle.hot_pixels.proofs.hot_edges.each_once.Goals as goal

pub returns : goal.returns
returns c =
    let made = c.args.points.items in
    let moved = c.move_by_coordinates.new.points.items in
    let sorted = c.sort_unstable.new.self.items in
    record {
      exact = c.shrink_to_fit.ensures.items ∙ dedup_is equal_points _ _ c.dedup.ensures.filtered
          ∙ sorted_is_ascending made sorted (IsPermutation-trans made moved sorted c.in_ok-move_by_coordinates.ensures.same c.sort_unstable.ensures.permutation) c.sort_unstable.ensures.sorted;
    }
