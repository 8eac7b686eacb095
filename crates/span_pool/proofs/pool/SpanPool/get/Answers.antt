use Rattle.std.proofs.Common.{◌≡◌, ℕ, List, length, ap, sym, ◌∙◌, arith}
use Rattle.span_pool.specs.SpanPool.{Pool}
use Rattle.span_pool.proofs.Cutting.{length-cut}
use Rattle.span_pool.proofs.pool.SpanPool.get.Goals as goal

pub span_in-requires-clause-there : goal.span_in-requires-clause-there
span_in-requires-clause-there c =
    let count : length c.args.self.now.spans ≡ length c.self.inside.ends.items = ap (λ (p : Pool). length p.spans) (sym c.self.view_is) ∙ length-cut 0 c.self.inside.ends.items c.self.inside.points.items in
    omega (arith, ap (λ (xs : List ℕ). length xs) c.deref-2.ensures.value)
