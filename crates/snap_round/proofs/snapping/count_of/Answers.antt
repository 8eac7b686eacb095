use Rattle.std.proofs.Common.{◌≡◌, ◌∙◌, ap, ℕ}
use Rattle.std.specs.Prelude.{sum_by}
use Rattle.std.proofs.lemmas.Result.{IfOk-weaker}
use Rattle.lists.specs.Lists.{ascending}
use Rattle.plane_model.specs.Points.{is_before}
use Rattle.plane_model.specs.Hot.{hot_points}
use Rattle.plane_model.specs.Snapped.{snapped, link_count}
use Rattle.snap_round.specs.Counting.{links_along}
use Rattle.snap_round.proofs.CountLemmas.{spots_count}
use Rattle.snap_round.proofs.snapping.count_of.Goals as goal

pub returns : goal.returns
returns c =
    let d = c.args.d.now in
    let hot = c.in_ok-set.set in
    let is : hot ≡ ascending is_before (hot_points d) = c.in_ok-set.ensures.exact ∙ c.requires.hot in
    record {
      exact = IfOk-weaker _ (λ (count : ℕ). count ≡ sum_by (links_along hot) c.deref.result.now) (λ (count : ℕ). count ≡ link_count (snapped d))
          (λ count e. e ∙ ap (sum_by (links_along hot)) (c.deref.ensures.value ∙ c.in_ok-spots.ensures.exact) ∙ spots_count d c.requires.paths hot is) c.count_links.ensures.exact;
    }
