use Rattle.std.proofs.Common.{sym, subst, ℕ, ◌<◌, All}
use Rattle.hot_pixels.proofs.MarkingLemmas.{near_there}
use Rattle.hot_pixels.proofs.marking.mark_crowds.Goals as goal

pub mark_crowd-requires : goal.mark_crowd-requires
mark_crowd-requires c = record {
  there = subst (λ (n : ℕ). All (λ i. i < n) c.near_of.result.now) (sym c.loop-place.invariant.0) (near_there c.args.edges.now c.args.buckets.now c.requires.over c.loop-place.place c.near_of.result.now c.near_of.ensures.exact);
}
