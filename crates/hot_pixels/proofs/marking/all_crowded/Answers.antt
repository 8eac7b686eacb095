use Rattle.std.proofs.Common.{◌≡◌, ◌∙◌, ap, sym, subst, rules, List, [], ◌++◌, Bool, true, ℕ, Option, None, replicate, length}
use Rattle.plane_model.specs.Points.{GridPoint}
use Rattle.hot_pixels.specs.declared.meetings.Meeting.{Meeting}
use Rattle.hot_pixels.specs.Marking.{AreMarks}
use Rattle.hot_pixels.proofs.MarkingLemmas.{all_inner}
use Rattle.hot_pixels.proofs.marking.all_crowded.Goals as goal

pub returns : goal.returns
returns c =
    let points = c.args.points.now in
    let edges = c.args.edges.now in
    let crowded : c.in_ok-crowded.crowded.items ≡ replicate (length edges) true = search rules in
    let lasts : c.in_ok-lasts.lasts.items ≡ replicate (length edges) None = search rules in
    let inner : c.extend_from_slice.new.self.items ≡ points = c.in_ok-extend_from_slice.ensures.items ∙ ap (λ (xs : List GridPoint). xs ++ points) c.in_ok-inner.ensures.items in
    record {
      made = subst (λ (xs : List Bool). AreMarks points edges xs c.in_ok-lasts.lasts.items c.new.result.items c.extend_from_slice.new.self.items) (sym crowded)
          (subst (λ (xs : List (Option ℕ)). AreMarks points edges (replicate (length edges) true) xs c.new.result.items c.extend_from_slice.new.self.items) (sym lasts)
          (subst (λ (xs : List Meeting). AreMarks points edges (replicate (length edges) true) (replicate (length edges) None) xs c.extend_from_slice.new.self.items) (sym c.new.ensures.items)
          (subst (λ (xs : List GridPoint). AreMarks points edges (replicate (length edges) true) (replicate (length edges) None) [] xs) (sym inner)
          (all_inner edges points))));
    }
