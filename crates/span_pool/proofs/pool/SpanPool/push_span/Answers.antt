use Rattle.std.proofs.Common.{◌≡◌, ◌-◌, ◌≤◌, List, [], ◌∷◌, ◌++◌, length, refl, ap, sym, ◌∙◌, arith, length-append}
use Rattle.std.specs.Prelude.{vec_len, vec_capacity}
use Rattle.std.proofs.lemmas.Slice.{pushed}
use Rattle.plane_model.specs.Points.{GridPoint}
use Rattle.span_pool.specs.SpanPool.{Pool, cut, HasRoom}
use Rattle.span_pool.proofs.Cutting.{length-cut, cut-pushed, CutsUp-push}
use Rattle.span_pool.proofs.pool.SpanPool.push_span.Goals as goal

pub returns-clause-numbered : goal.returns-clause-numbered
returns-clause-numbered c =
    let count : length c.args.self.now.spans ≡ length c.self.inside.ends.items = ap (λ (p : Pool). length p.spans) (sym c.self.view_is) ∙ length-cut 0 c.self.inside.ends.items c.self.inside.points.items in
    omega arith

pub invariant_of-self : goal.invariant_of-self
invariant_of-self c =
    let points = c.self.inside.points.items in
    let ends = c.self.inside.ends.items in
    let more = c.args.pts.now in
    let points_after : c.extend_from_slice.new.self.items ≡ points ++ more = pushed more refl c.unwrap.ensures c.extend_from_slice.ensures.items in
    let end : c.len-end.result ≡ length (points ++ more) = c.len-end.ensures ∙ c.extend_from_slice.new.self.ok.0 ∙ ap (λ (xs : List GridPoint). length xs) points_after in
    let ends_after : c.push.new.self.items ≡ ends ++ length (points ++ more) ∷ [] = pushed (c.len-end.result ∷ []) refl c.unwrap-2.ensures c.push.ensures.items ∙ (λ i. ends ++ end i ∷ []) in
    let one = rw c.unwrap-2.ensures at c.push.ensures.len in
    let many = rw c.unwrap.ensures at c.extend_from_slice.ensures.len in
    let span_room : HasRoom (vec_len c.self.inside.ends) c.self.inside.spare_spans (vec_capacity c.self.inside.ends) = c.self.invariant.1 in
    let point_room : HasRoom (vec_len c.self.inside.points) c.self.inside.spare_points (vec_capacity c.self.inside.points) = c.self.invariant.2 in
    let start : 0 ≤ c.self.inside.spare_spans = omega arith in
    let same_spans = ap (λ (p : Pool). p.spare_spans) c.self.view_is in
    let same_points = ap (λ (p : Pool). p.spare_points) c.self.view_is in (
      rw (ends_after, points_after) (CutsUp-push 0 ends (length points) (length (points ++ more)) c.self.invariant.0 (omega (arith, length-append points more))),
      record { fits = omega (arith, c.push.ensures.capacity); counted = omega arith },
      record { fits = omega (arith, c.extend_from_slice.ensures.capacity); counted = omega arith },
    )

pub returns-clause-pushed : goal.returns-clause-pushed
returns-clause-pushed c =
    let points = c.self.inside.points.items in
    let ends = c.self.inside.ends.items in
    let more = c.args.pts.now in
    let points_after : c.extend_from_slice.new.self.items ≡ points ++ more = pushed more refl c.unwrap.ensures c.extend_from_slice.ensures.items in
    let end : c.len-end.result ≡ length (points ++ more) = c.len-end.ensures ∙ c.extend_from_slice.new.self.ok.0 ∙ ap (λ (xs : List GridPoint). length xs) points_after in
    let ends_after : c.push.new.self.items ≡ ends ++ length (points ++ more) ∷ [] = pushed (c.len-end.result ∷ []) refl c.unwrap-2.ensures c.push.ensures.items ∙ (λ i. ends ++ end i ∷ []) in
    let spans_after : cut 0 c.push.new.self.items c.extend_from_slice.new.self.items ≡ c.args.self.now.spans ++ more ∷ [] =
    (λ i. cut 0 (ends_after i) (points_after i)) ∙ cut-pushed ends points more c.self.invariant.0 ∙ ap (λ (p : Pool). p.spans ++ more ∷ []) c.self.view_is in
    λ i. record { spans = spans_after i; spare_spans = (c.self.view_is i).spare_spans - 1; spare_points = (c.self.view_is i).spare_points - length more }
