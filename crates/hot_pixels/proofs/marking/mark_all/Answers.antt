use Rattle.std.proofs.Common.{arith}
use Rattle.hot_pixels.specs.Marking.{IsMarked}
use Rattle.hot_pixels.proofs.MarkingLemmas.{marked_more, all_taken}
use Rattle.hot_pixels.proofs.marking.mark_all.Goals as goal

pub loop-k-preserved : goal.loop-k-preserved
loop-k-preserved c = marked_more c.args.marks.now.items c.loop-k.marks.items c.mark.new.marks.items c.args.near.now c.loop-k.k c.loop-k-test.true c.mark.ensures.kept c.mark.ensures.marked c.loop-k.invariant

pub returns-clause-all : goal.returns-clause-all
returns-clause-all c = all_taken (IsMarked c.loop-k.marks.items) c.args.near.now c.loop-k.k (let l = c.loop-k-test.false in omega arith) c.loop-k.invariant.1
