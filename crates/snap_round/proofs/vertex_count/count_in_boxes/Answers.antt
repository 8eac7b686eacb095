use Rattle.std.proofs.Common.{rules, ◌≡◌, ◌+◌, ◌∙◌, ap, ℕ, length}
use Rattle.snap_round.proofs.VertexCount.{count_more}
use Rattle.snap_round.proofs.vertex_count.count_in_boxes.Goals as goal

pub loop-b-preserved : goal.loop-b-preserved
loop-b-preserved c =
    let ring = c.box_of.result.now in
    let long : c.from.result ≡ length ring = search rules in
    count_more length c.args.d.now.boxes c.loop-b.b ring c.loop-b.count c.in_ok-count.count c.box_of.ensures.found c.loop-b.invariant (c.in_ok-count.ensures.exact ∙ ap (λ (n : ℕ). c.loop-b.count + n) long)
