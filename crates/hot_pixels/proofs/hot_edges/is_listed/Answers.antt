use Rattle.std.proofs.Common.{inl, inr}
use Rattle.std.proofs.lemmas.Bool.{cases_Bool}
use Rattle.hot_pixels.proofs.SortLemmas.{in_order}
use Rattle.hot_pixels.proofs.hot_edges.is_listed.Goals as goal

pub has_point-requires : goal.has_point-requires
has_point-requires c = record { sorted = in_order c.args.points.now c.requires }

pub returns : goal.returns
returns c = record { exact = (c.has_point.ensures.yes, λ w. elim (cases_Bool c.has_point.result) [ inl e ↦ e | inr e ↦ absurd (c.has_point.ensures.no e w) ]) }
