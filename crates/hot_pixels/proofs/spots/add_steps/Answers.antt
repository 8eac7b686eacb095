use Rattle.std.proofs.Common.{◌++◌, arith}
use Rattle.hot_pixels.specs.Spots.{spots_after}
use Rattle.hot_pixels.proofs.Appending.{steps_more, steps_all}
use Rattle.hot_pixels.proofs.spots.add_steps.Goals as goal

pub loop-p-preserved : goal.loop-p-preserved
loop-p-preserved c = steps_more (c.args.spots.now.items ++ spots_after c.args.from c.args.path.now) c.loop-p.spots.items c.push.new.self.items c.loop-p.last c.p-item.result c.args.path.now c.loop-p.p-index c.new.result (omega arith) c.p-item.is c.loop-p.invariant c.in_ok-push.ensures.items c.new.ensures.made

pub returns : goal.returns
returns c = record { added = steps_all (c.args.spots.now.items ++ spots_after c.args.from c.args.path.now) c.loop-p.spots.items c.loop-p.last c.args.path.now c.loop-p.p-index (omega arith) c.loop-p.invariant }
