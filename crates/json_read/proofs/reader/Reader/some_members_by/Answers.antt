use Rattle.std.proofs.Common.{arith, ap, length}
use Rattle.json_read.proofs.Sequences.{reads_shorter}
use Rattle.json_read.proofs.Straight.{members_none, members_init, members_more, members_end}
use Rattle.json_read.proofs.reader.Reader.some_members_by.Goals as goal

pub returns-then-take : goal.returns-then-take
returns-then-take g c = record { exact = λ e first. members_none c.args.depth (g.T.MemberTaker.took first c.args.taker.now) _ _ _ c.skip_white.ensures.exact (c.take.ensures.taken c.if-take.true) }

pub loop-self-init : goal.loop-self-init
loop-self-init g c = λ first. members_init c.args.depth (g.T.MemberTaker.took first c.args.taker.now) _ _ _ c.skip_white.ensures.exact (c.take.ensures.stays c.if-take.false) (c.take.ensures.other c.if-take.false)

pub returns-then-take-2 : goal.returns-then-take-2
returns-then-take-2 g c = record {
  exact = λ e first.
      let m = c.in_ok-member_by.ensures.exact c.if-not-branch.false first in
      members_end c.args.depth (g.T.MemberTaker.took first c.args.taker.now) (g.T.MemberTaker.took first c.loop-self.taker) (g.T.MemberTaker.took first c.member_by.new.taker) m.0 _ _ _ _ _ (c.loop-self.invariant first) m.2 m.3 (c.take-in-loop-self.ensures.taken c.if-take-2.true);
}

pub loop-self-smaller : goal.loop-self-smaller
loop-self-smaller g c =
    let m = c.in_ok-member_by.ensures.exact c.if-not-branch.false c.args.taker.now in
    omega (arith, reads_shorter _ _ m.2.reads, reads_shorter _ _ m.3.1.passes.reads, ap length (c.take-in-loop-self.ensures.stays c.if-take-2.false), ap length (c.take-in-loop-self-2.ensures.taken c.if-not-take.false))

pub loop-self-preserved : goal.loop-self-preserved
loop-self-preserved g c = λ first.
    let m = c.in_ok-member_by.ensures.exact c.if-not-branch.false first in
    members_more c.args.depth (g.T.MemberTaker.took first c.args.taker.now) (g.T.MemberTaker.took first c.loop-self.taker) (g.T.MemberTaker.took first c.member_by.new.taker) m.0 _ _ _ _ _ _ (c.loop-self.invariant first) m.2 m.3 (c.take-in-loop-self.ensures.stays c.if-take-2.false) (c.take-in-loop-self-2.ensures.taken c.if-not-take.false)
