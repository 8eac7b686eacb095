use Rattle.std.proofs.Common.{◌∙◌, sym, arith}
use Rattle.union_ops.proofs.ChoiceLemmas.{past_second, past_first}
use Rattle.union_ops.proofs.face_choices.choice_order.Goals as goal

pub returns-then-i-b : goal.returns-then-i-b
returns-then-i-b c = record { exact = sym (c.loop-i.invariant ∙ past_second c.args.a.now c.args.b.now c.loop-i.i c.loop-i-test.true c.if-i-b.true) }

pub returns-then-a-b : goal.returns-then-a-b
returns-then-a-b c =
    let done = c.loop-i-test.false in
    let end = c.loop-i.auto.i-end in
    let less = c.if-a-b.true in
    record { exact = sym (c.loop-i.invariant ∙ past_first c.args.a.now c.args.b.now c.loop-i.i done (omega arith)) }
