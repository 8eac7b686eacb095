use Rattle.std.proofs.Common.{◌≡◌, ◌+◌, length, ap, sym, ◌∙◌, arith}
use Rattle.std.specs.Prelude.{vec_len, vec_capacity}
use Rattle.span_pool.specs.SpanPool.{Pool, HasRoom, points_held}
use Rattle.span_pool.proofs.Cutting.{length-cut, sum_by-cut}
use Rattle.span_pool.proofs.pool.SpanPool.reserve.Goals as goal

pub invariant_of-self-2 : goal.invariant_of-self-2
invariant_of-self-2 c =
    let points = c.self.inside.points.items in
    let ends = c.self.inside.ends.items in
    let spans_count : length c.args.self.now.spans ≡ length ends = ap (λ (p : Pool). length p.spans) (sym c.self.view_is) ∙ length-cut 0 ends points in
    let points_count : points_held c.args.self.now + 0 ≡ length points = ap (λ (p : Pool). points_held p + 0) (sym c.self.view_is) ∙ sum_by-cut 0 ends points c.self.invariant.0 in
    let span_room : HasRoom (vec_len c.self.inside.ends) c.self.inside.spare_spans (vec_capacity c.self.inside.ends) = c.self.invariant.1 in
    let point_room : HasRoom (vec_len c.self.inside.points) c.self.inside.spare_points (vec_capacity c.self.inside.points) = c.self.invariant.2 in
    let for_spans = c.in_ok-reserve.ensures in
    let for_points = c.in_ok-reserve-2.ensures in
    let span_length = c.self.inside.ends.ok.0 in
    let point_length = c.self.inside.points.ok.0 in (
      rw (c.reserve.ensures.items, c.reserve-2.ensures.items) c.self.invariant.0,
      record { fits = omega (arith, for_spans.ok, for_spans.capacity, for_spans.len); counted = omega (arith, for_spans.len) },
      record { fits = omega (arith, for_points.ok, for_points.capacity, for_points.len); counted = omega (arith, for_points.len) },
    )
