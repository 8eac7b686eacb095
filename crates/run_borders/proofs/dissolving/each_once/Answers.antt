use Rattle.std.proofs.Common.{◌∙◌, nat_eq}
use Rattle.std.proofs.lemmas.List.Filters.{dedup_is}
use Rattle.face_sets.proofs.SetLemmas.{sorted_once}
use Rattle.run_borders.proofs.dissolving.each_once.Goals as goal

pub returns : goal.returns
returns c = record {
  exact = dedup_is nat_eq _ _ c.dedup.ensures.filtered ∙ sorted_once c.args.arcs.items c.sort_unstable.new.self.items c.sort_unstable.ensures.permutation c.sort_unstable.ensures.sorted;
}
