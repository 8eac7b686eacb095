use Rattle.std.proofs.Common.{◌≡◌, ◌<◌, ℕ, List, length, ap, sym, subst, ◌∙◌, arith}
use Rattle.std.specs.Prelude.{slice_index_or}
use Rattle.span_pool.specs.SpanPool.{Pool}
use Rattle.span_pool.proofs.Cutting.{length-cut}
use Rattle.span_pool.proofs.pool.SpanPool.keep_only.Goals as goal

pub gather-spans-requires-clause-below : goal.gather-spans-requires-clause-below
gather-spans-requires-clause-below c k d l =
    let count : length c.args.self.now.spans ≡ length c.self.inside.ends.items = ap (λ (p : Pool). length p.spans) (sym c.self.view_is) ∙ length-cut 0 c.self.inside.ends.items c.self.inside.points.items in
    let same = c.as_slice.ensures.all in
    let within : k < length c.args.ids.now = subst (λ (xs : List ℕ). k < length xs) same l in
    let below = c.requires.below k d within in
    let e : slice_index_or c.as_slice.result.now k d ≡ slice_index_or c.args.ids.now k d = ap (λ (xs : List ℕ). slice_index_or xs k d) same in
    omega arith
