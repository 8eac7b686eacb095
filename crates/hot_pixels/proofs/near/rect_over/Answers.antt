use Rattle.std.proofs.Common.{arith}
use Rattle.hot_pixels.proofs.NearLemmas.{holds_more}
use Rattle.hot_pixels.proofs.near.rect_over.Goals as goal

pub loop-k-preserved : goal.loop-k-preserved
loop-k-preserved c =
    holds_more c.loop-k.rect c.in_ok-rect-2.rect c.args.points.now c.args.start c.loop-k.k c.index-points-k.result _ c.loop-k.invariant c.in_ok-rect-2.ensures.made (let a = c.loop-k.auto in omega arith) c.index-points-k.is
