use Rattle.grid_base.proofs.ReverseLemmas.{reversed_next}
use Rattle.grid_base.proofs.list_types.append_reversed.Goals as goal

pub loop-k-preserved : goal.loop-k-preserved
loop-k-preserved c =
    reversed_next c.args.points.now c.loop-k.points c.args.way.now c.push.new.self c.index-way-way.result c.loop-k.k c.loop-k.invariant c.loop-k-test.true c.index-way-way.is c.in_ok-push.ensures.ok
