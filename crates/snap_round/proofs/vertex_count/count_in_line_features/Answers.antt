use Rattle.std.proofs.Common.{◌≡◌, ◌+◌, ◌∙◌, ap, subst, ℕ, length, Some}
use Rattle.std.specs.Prelude.{sum_by}
use Rattle.std.specs.List.{slice_get}
use Rattle.snap_round.proofs.VertexCount.{count_more}
use Rattle.snap_round.proofs.vertex_count.count_in_line_features.Goals as goal

pub loop-f-preserved : goal.loop-f-preserved
loop-f-preserved c =
    let all = c.args.d.now.lines in
    let items = c.lines_of-lines.result.now in
    let found : slice_get all c.loop-f.f ≡ Some items = subst (λ (n : ℕ). slice_get all n ≡ Some items) c.new.ensures.made c.lines_of-lines.ensures.found in
    count_more (sum_by length) all c.loop-f.f items c.loop-f.count c.in_ok-count.count found c.loop-f.invariant (c.in_ok-count.ensures.exact ∙ ap (λ (n : ℕ). c.loop-f.count + n) (c.in_ok-count_in_rings.ensures.exact ∙ ap (sum_by length) c.as_slice.ensures.all))
