use Rattle.std.proofs.Common.{arith, ap, length}
use Rattle.json_read.proofs.Sequences.{reads_shorter}
use Rattle.json_read.proofs.Straight.{item_more, item_end}
use Rattle.json_read.proofs.Taking.{items_init}
use Rattle.json_read.proofs.reader.Reader.some_items_by.Goals as goal

pub loop-self-init : goal.loop-self-init
loop-self-init g c = λ first. items_init c.args.depth (g.T.ValueTaker.took first c.args.taker.now) _ _ _ c.skip_white.ensures.exact (c.take.ensures.stays c.if-take.false) (c.take.ensures.other c.if-take.false)

pub returns-then-take-2 : goal.returns-then-take-2
returns-then-take-2 g c =
    record { exact = λ e first. item_end c.args.depth (g.T.ValueTaker.took first c.args.taker.now) (g.T.ValueTaker.took first c.loop-self.taker) (g.T.ValueTaker.took first c.take_value.new.self) _ _ _ _ (c.loop-self.invariant first) (c.in_ok-take_value.ensures.read c.if-not-branch.false first) (c.take-in-loop-self.ensures.taken c.if-take-2.true) }

pub loop-self-smaller : goal.loop-self-smaller
loop-self-smaller g c =
    let p = c.in_ok-take_value.ensures.read c.if-not-branch.false c.args.taker.now in
    omega (arith, reads_shorter _ _ p.1.passes.reads, ap length (c.take-in-loop-self.ensures.stays c.if-take-2.false), ap length (c.take-in-loop-self-2.ensures.taken c.if-not-take.false))

pub loop-self-preserved : goal.loop-self-preserved
loop-self-preserved g c =
    λ first. item_more c.args.depth (g.T.ValueTaker.took first c.args.taker.now) (g.T.ValueTaker.took first c.loop-self.taker) (g.T.ValueTaker.took first c.take_value.new.self) _ _ _ _ _ (c.loop-self.invariant first) (c.in_ok-take_value.ensures.read c.if-not-branch.false first) (c.take-in-loop-self.ensures.stays c.if-take-2.false) (c.take-in-loop-self-2.ensures.taken c.if-not-take.false)
