use Rattle.std.proofs.Common.{◌≡◌, length, ap, sym, ◌∙◌, arith}
use Rattle.span_pool.specs.SpanPool.{Pool}
use Rattle.span_pool.proofs.Cutting.{length-cut}
use Rattle.span_pool.proofs.pool.SpanPool.count.Goals as goal

pub returns-clause-exact : goal.returns-clause-exact
returns-clause-exact c =
    let count : length c.args.self.now.spans ≡ length c.self.inside.ends.items = ap (λ (p : Pool). length p.spans) (sym c.self.view_is) ∙ length-cut 0 c.self.inside.ends.items c.self.inside.points.items in
    omega arith
