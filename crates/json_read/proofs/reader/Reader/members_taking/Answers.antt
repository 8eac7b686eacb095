use Rattle.std.proofs.Common.{arith, refl, ap, length}
use Rattle.json_read.proofs.Parts.{at_exit}
use Rattle.json_read.proofs.Objects.{object_name_breaks, object_item_breaks, object_comma_breaks}
use Rattle.json_read.proofs.Sequences.{reads_shorter}
use Rattle.json_read.proofs.Taking.{members_none, members_init, members_more, members_end, other_member}
use Rattle.json_read.proofs.reader.Reader.members_taking.Goals as goal

pub returns-then-take-clause-taken : goal.returns-then-take-clause-taken
returns-then-take-clause-taken g c =
    λ first _. members_none c.args.depth (g.T.ItemTaker.took first c.args.taker.now) c.args.wanted.now c.args.taking.now.fields c.args.taking.now.fields c.args.taking.now.is_taken _ _ _ c.requires.no_fields c.skip_white.ensures.exact (c.take.ensures.taken c.if-take.true) (refl, c.requires.none_taken)

pub loop-name-init : goal.loop-name-init
loop-name-init g c =
    λ first. rw c.requires.none_taken (members_init c.args.depth (g.T.ItemTaker.took first c.args.taker.now) c.args.wanted.now c.args.taking.now.fields _ _ _ c.requires.no_fields c.skip_white.ensures.exact (c.take.ensures.stays c.if-take.false) (c.take.ensures.other c.if-take.false))

pub returns-in_err-name-clause-taken : goal.returns-in_err-name-clause-taken
returns-in_err-name-clause-taken g c =
    λ first. (let h = c.loop-name.invariant first in at_exit _ _ c.from_residual.result c.in_err-name.field-0.0 c.from_residual.ensures.1 (object_name_breaks c.args.depth h.0 c.in_err-name.field-0.0 _ _ _ h.1 c.in_err-name.ensures.read))

pub returns-in_err-member_taking-clause-taken : goal.returns-in_err-member_taking-clause-taken
returns-in_err-member_taking-clause-taken g c =
    λ first. (let h = c.loop-name.invariant first in at_exit _ _ c.from_residual-in_err-member_taking.result c.in_err-member_taking.field-0.0 c.from_residual-in_err-member_taking.ensures.1 (object_item_breaks c.args.depth h.0 c.in_ok-name.name c.in_err-member_taking.field-0.0 _ _ _ _ h.1 c.in_ok-name.ensures.read (c.in_err-member_taking.ensures.taken first)))

pub returns-then-take-2-clause-taken : goal.returns-then-take-2-clause-taken
returns-then-take-2-clause-taken g c =
    λ first _. members_end c.args.depth (g.T.ItemTaker.took first c.args.taker.now) (g.T.ItemTaker.took first c.loop-name.taker) (g.T.ItemTaker.took first c.member_taking.new.taker) c.args.wanted.now c.in_ok-name.name c.loop-name.taking c.member_taking.new.taking c.member_taking.new.taking.fields c.member_taking.new.taking.is_taken _ _ _ _ _ (c.loop-name.invariant first) c.in_ok-name.ensures.read (c.in_ok-member_taking.ensures.taken first c.if-not-branch.false) (c.take-in-loop-name.ensures.taken c.if-take-2.true) (refl, refl)

pub loop-name-smaller : goal.loop-name-smaller
loop-name-smaller g c =
    let p = c.in_ok-member_taking.ensures.taken c.args.taker.now c.if-not-branch.false in
    omega (arith, reads_shorter _ _ c.in_ok-name.ensures.read.reads, reads_shorter _ _ p.1.passes.reads, ap length (c.take-in-loop-name.ensures.stays c.if-take-2.false), ap length c.in_ok-expect.ensures.read)

pub loop-name-preserved : goal.loop-name-preserved
loop-name-preserved g c =
    λ first. members_more c.args.depth (g.T.ItemTaker.took first c.args.taker.now) (g.T.ItemTaker.took first c.loop-name.taker) (g.T.ItemTaker.took first c.member_taking.new.taker) c.args.wanted.now c.in_ok-name.name c.loop-name.taking c.member_taking.new.taking _ _ _ _ _ _ (c.loop-name.invariant first) c.in_ok-name.ensures.read (c.in_ok-member_taking.ensures.taken first c.if-not-branch.false) (c.take-in-loop-name.ensures.stays c.if-take-2.false) c.in_ok-expect.ensures.read

pub returns-in_err-expect-clause-taken : goal.returns-in_err-expect-clause-taken
returns-in_err-expect-clause-taken g c =
    λ first. (let h = c.loop-name.invariant first in let p = c.in_ok-member_taking.ensures.taken first c.if-not-branch.false in at_exit _ _ c.from_residual-in_err-expect.result c.in_err-expect.field-0.0 c.from_residual-in_err-expect.ensures.1 (object_comma_breaks c.args.depth h.0 c.in_ok-name.name p.0 c.in_err-expect.field-0.0 _ _ _ _ _ _ h.1 c.in_ok-name.ensures.read p.1.passes p.1.trimmed (c.take-in-loop-name.ensures.stays c.if-take-2.false) (c.take-in-loop-name.ensures.other c.if-take-2.false) c.in_err-expect.ensures.read))

pub returns-then-not-branch-clause-other : goal.returns-then-not-branch-clause-other
returns-then-not-branch-clause-other g c = λ _.
    let before = g.T.ItemTaker.took c.args.taker.now c.args.taker.now in
    let now = g.T.ItemTaker.took c.args.taker.now c.loop-name.taker in
    other_member c.args.depth before now c.args.wanted.now c.in_ok-name.name c.loop-name.taking _ _ _ (c.loop-name.invariant c.args.taker.now) c.in_ok-name.ensures.read (c.in_ok-member_taking.ensures.other c.if-not-branch.true)
