use Rattle.std.proofs.Common.{arith}
use Rattle.hot_pixels.proofs.ChainLemmas.{rise_begins, rise_goes_on, rise_ends}
use Rattle.hot_pixels.proofs.chains.do_rise.Goals as goal

pub loop-k-init : goal.loop-k-init
loop-k-init c = rise_begins c.args.s.now c.args.points.now

pub loop-k-preserved : goal.loop-k-preserved
loop-k-preserved c =
    rise_goes_on c.args.s.now c.args.points.now c.loop-k.k c.index-points-k.result c.index-points-k-in-loop-k.result c.loop-k.auto.k c.loop-k-test.true c.index-points-k.is c.index-points-k-in-loop-k.is (c.has_lower_key.ensures.yes c.if-not-has_lower_key.false) c.loop-k.invariant

pub returns : goal.returns
returns c = record { yes = λ _. rise_ends c.args.s.now c.args.points.now c.loop-k.k (let l = c.loop-k-test.false in omega arith) c.loop-k.invariant }
