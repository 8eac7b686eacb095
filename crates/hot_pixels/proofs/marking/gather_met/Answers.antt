use Rattle.std.proofs.Common.{arith}
use Rattle.hot_pixels.specs.Marking.{IsSeen}
use Rattle.hot_pixels.proofs.MarkingLemmas.{seen_more, all_taken}
use Rattle.hot_pixels.proofs.marking.gather_met.Goals as goal

pub loop-k-preserved : goal.loop-k-preserved
loop-k-preserved c =
    let h = c.in_ok-is_inner.ensures in
    seen_more c.args.edges.now c.args.crowded.now c.args.p c.args.lasts.now.items c.loop-k.lasts.items c.gather_if_met.new.lasts.items c.args.meetings.now.items c.loop-k.meetings.items c.gather_if_met.new.meetings.items c.loop-k.is_inner c.in_ok-is_inner.is_inner c.args.near.now c.loop-k.k
    c.loop-k-test.true h.adds h.grows h.seen c.loop-k.invariant

pub returns-clause-seen : goal.returns-clause-seen
returns-clause-seen c = all_taken (IsSeen c.args.edges.now c.args.crowded.now c.loop-k.lasts.items c.loop-k.meetings.items c.loop-k.is_inner c.args.p) c.args.near.now c.loop-k.k (let l = c.loop-k-test.false in omega arith) c.loop-k.invariant.1
