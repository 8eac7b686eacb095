use Rattle.std.proofs.Common.{arith, map, []}
use Rattle.bucket_grid.specs.Rects.{Holds}
use Rattle.bucket_grid.specs.Tree.{Grew}
use Rattle.bucket_grid.proofs.OnTheWay.{grown_leads}
use Rattle.bucket_grid.proofs.buckets.Buckets.build_over.Goals as goal

pub invariant_of-result : goal.invariant_of-result
invariant_of-result g c =
    let boxes = map g.T.Boxed.corners c.args.items.now in
    let forest = c.fit.new.forest in
    let grew : Grew 42 boxes (Holds c.in_ok-whole.whole) [] forest.nodes.items [] forest.rects.items [] forest.near (λ g. c.in_ok-top.top) = rw (c.new.ensures.items, c.new-2.ensures.items, c.new-3.ensures.empty, ← c.fit.ensures.nodes, ← c.fit.ensures.rects, ← c.fit.ensures.near) at c.in_ok-top.ensures.grew in
    grown_leads boxes c.in_ok-whole.whole forest.nodes.items c.push.new.self.items forest.rects.items forest.near c.in_ok-top.top c.len-root.result c.in_ok-whole.ensures.exact (omega (arith, forest.rects.ok.0))
    c.in_ok-push.ensures.items (omega (arith, c.len-root.ensures, forest.nodes.ok.0)) grew

pub returns-clause-places : goal.returns-clause-places
returns-clause-places g c =
    let boxes = map g.T.Boxed.corners c.args.items.now in
    let forest = c.fit.new.forest in
    let grew : Grew 42 boxes (Holds c.in_ok-whole.whole) [] forest.nodes.items [] forest.rects.items [] forest.near (λ g. c.in_ok-top.top) = rw (c.new.ensures.items, c.new-2.ensures.items, c.new-3.ensures.empty, ← c.fit.ensures.nodes, ← c.fit.ensures.rects, ← c.fit.ensures.near) at c.in_ok-top.ensures.grew in
    let l = grown_leads boxes c.in_ok-whole.whole forest.nodes.items c.push.new.self.items forest.rects.items forest.near c.in_ok-top.top c.len-root.result c.in_ok-whole.ensures.exact (omega (arith, forest.rects.ok.0))
    c.in_ok-push.ensures.items (omega (arith, c.len-root.ensures, forest.nodes.ok.0)) grew in
    λ p h. (let w = l.leads p h in (w.0, w.2))
