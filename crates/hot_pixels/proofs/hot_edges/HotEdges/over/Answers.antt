use Rattle.std.proofs.Common.{List, subst}
use Rattle.std.specs.Prelude.{All}
use Rattle.std.specs.List.Sorted.{IsPermutation}
use Rattle.plane_model.specs.Points.{GridPoint}
use Rattle.hot_pixels.specs.Near.{HoldsRun}
use Rattle.hot_pixels.proofs.MarkingLemmas.{marks_moved}
use Rattle.hot_pixels.proofs.hot_edges.HotEdges.over.Goals as goal

pub invariant_of-result : goal.invariant_of-result
invariant_of-result c =
    let moved = c.in_ok-inner.inner.items in
    let marking = c.args.marking in (
      (c.requires.up, c.requires.ends),
      (
        marks_moved c.args.points.items c.args.edges.segments.items marking.crowded.items marking.lasts.items marking.meetings.items marking.inner.items moved
            (subst (λ (xs : List GridPoint). IsPermutation xs moved) c.deref.ensures.value c.in_ok-inner.ensures.made) c.requires.marked,
        subst (λ (xs : List GridPoint). All (HoldsRun xs) c.in_ok-inner_runs.inner_runs.items) c.deref-2.ensures.value c.in_ok-inner_runs.ensures.made,
      ),
    )
