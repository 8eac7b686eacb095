use Rattle.std.proofs.Common.{subst, List}
use Rattle.std.specs.Prelude.{All}
use Rattle.std.specs.List.Sorted.{IsPermutation}
use Rattle.plane_model.specs.Points.{GridPoint}
use Rattle.hot_pixels.specs.Near.{HoldsRun}
use Rattle.hot_pixels.proofs.hot_set.HotSet.over.Goals as goal

pub invariant_of-result : goal.invariant_of-result
invariant_of-result c = record {
  up = c.points.ensures.ascending;
  moved = subst (λ (xs : List GridPoint). IsPermutation xs c.in_ok-curved.curved.items) c.points.ensures.exact c.in_ok-curved.ensures.made;
  held = subst (λ (xs : List GridPoint). All (HoldsRun xs) c.in_ok-runs.runs.items) c.deref.ensures.value c.in_ok-runs.ensures.made;
}
