use Rattle.std.proofs.Common.{◌∙◌, ap, ◌&&◌}
use Rattle.std.proofs.lemmas.List.Filters.{dedup_is}
use Rattle.grid_base.specs.Drawn.{without_repeats}
use Rattle.grid_base.proofs.RepeatLemmas.{first_of_each_run, int_eq_is}
use Rattle.grid_base.proofs.list_types.without_repeats.Goals as goal

pub returns : goal.returns
returns c = record {
  exact = c.in-Ok.ensures.same
      ∙ c.shrink_to_fit.ensures.items
      ∙ dedup_is _ c.into_vec-points.result.items c.dedup.new.self.items c.dedup.ensures.filtered
      ∙ first_of_each_run _ (λ x y. (λ i. int_eq_is x.x y.x i && int_eq_is x.y y.y i)) c.into_vec-points.result.items ∙ ap without_repeats c.into_vec-points.ensures.all;
}
