use Rattle.std.proofs.Common.{arith, ap, length}
use Rattle.json_read.proofs.Parts.{at_exit}
use Rattle.json_read.proofs.Sequences.{reads_shorter}
use Rattle.json_read.proofs.Straight.{item_more, item_end}
use Rattle.json_read.proofs.Taking.{items_none, items_init, item_breaks, items_comma_breaks}
use Rattle.json_read.proofs.reader.Reader.items_taking.Goals as goal

pub returns-then-take : goal.returns-then-take
returns-then-take g c = record { read = λ first. items_none c.args.depth (g.T.ItemTaker.took first c.args.taker.now) _ _ _ c.skip_white.ensures.exact (c.take.ensures.taken c.if-take.true) }

pub loop-self-init : goal.loop-self-init
loop-self-init g c = λ first. items_init c.args.depth (g.T.ItemTaker.took first c.args.taker.now) _ _ _ c.skip_white.ensures.exact (c.take.ensures.stays c.if-take.false) (c.take.ensures.other c.if-take.false)

pub returns-in_err-item_taking : goal.returns-in_err-item_taking
returns-in_err-item_taking g c =
    record { read = λ first. at_exit _ _ c.from_residual.result c.in_err-item_taking.field-0.0 c.from_residual.ensures.1 (item_breaks c.args.depth (g.T.ItemTaker.took first c.args.taker.now) (g.T.ItemTaker.took first c.loop-self.taker) c.in_err-item_taking.field-0.0 _ _ _ (c.loop-self.invariant first) (c.in_err-item_taking.ensures.read first)) }

pub returns-then-take-2 : goal.returns-then-take-2
returns-then-take-2 g c =
    record { read = λ first. item_end c.args.depth (g.T.ItemTaker.took first c.args.taker.now) (g.T.ItemTaker.took first c.loop-self.taker) (g.T.ItemTaker.took first c.item_taking.new.taker) _ _ _ _ (c.loop-self.invariant first) (c.in_ok-item_taking.ensures.read first) (c.take-in-loop-self.ensures.taken c.if-take-2.true) }

pub loop-self-smaller : goal.loop-self-smaller
loop-self-smaller g c =
    let p = c.in_ok-item_taking.ensures.read c.args.taker.now in
    omega (arith, reads_shorter _ _ p.1.passes.reads, ap length (c.take-in-loop-self.ensures.stays c.if-take-2.false), ap length c.in_ok-expect.ensures.read)

pub loop-self-preserved : goal.loop-self-preserved
loop-self-preserved g c =
    λ first. item_more c.args.depth (g.T.ItemTaker.took first c.args.taker.now) (g.T.ItemTaker.took first c.loop-self.taker) (g.T.ItemTaker.took first c.item_taking.new.taker) _ _ _ _ _ (c.loop-self.invariant first) (c.in_ok-item_taking.ensures.read first) (c.take-in-loop-self.ensures.stays c.if-take-2.false) c.in_ok-expect.ensures.read

pub returns-in_err-expect : goal.returns-in_err-expect
returns-in_err-expect g c =
    record { read = λ first. (let v = c.in_ok-item_taking.ensures.read first in at_exit _ _ c.from_residual-in_err-expect.result c.in_err-expect.field-0.0 c.from_residual-in_err-expect.ensures.1 (items_comma_breaks c.args.depth (g.T.ItemTaker.took first c.args.taker.now) (g.T.ItemTaker.took first c.loop-self.taker) v.0 c.in_err-expect.field-0.0 _ _ _ _ _ (c.loop-self.invariant first) v.1.passes v.1.trimmed (c.take-in-loop-self.ensures.stays c.if-take-2.false) (c.take-in-loop-self.ensures.other c.if-take-2.false) c.in_err-expect.ensures.read)) }
