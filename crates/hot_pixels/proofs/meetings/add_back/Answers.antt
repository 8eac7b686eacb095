use Rattle.std.proofs.Common.{◌+◌, ◌∙◌, sym, subst, arith, List}
use Rattle.plane_model.specs.Points.{GridPoint}
use Rattle.hot_pixels.proofs.MeetingLemmas.{IsWalked, walk_begins, walk_goes_on, walk_stops, walk_ends}
use Rattle.hot_pixels.proofs.meetings.add_back.Goals as goal

pub loop-step-init : goal.loop-step-init
loop-step-init c = walk_begins c.args.meetings.now c.args.last c.args.points.now.items

pub loop-step-preserved : goal.loop-step-preserved
loop-step-preserved c =
    let meetings = c.args.meetings.now in
    let begun = c.args.points.now.items in
    let m = c.in-Some.meeting in
    subst (λ (met : List GridPoint). IsWalked meetings c.args.last begun met m.before (c.loop-step._step + 1)) (sym c.in_ok-push.ensures.items)
    (walk_goes_on meetings c.args.last begun c.loop-step.points.items c.loop-step.at c.loop-step._step m (sym c.meeting_at.ensures.exact ∙ c.in-Some.is) c.loop-step.invariant)

pub returns-in_default : goal.returns-in_default
returns-in_default c = record { ok = walk_stops c.args.meetings.now c.args.last c.args.points.now.items c.loop-step.points.items c.loop-step.at c.loop-step._step (sym c.meeting_at.ensures.exact ∙ c.in_default.is) c.loop-step.invariant }

pub returns : goal.returns
returns c = record { ok = walk_ends c.args.meetings.now c.args.last c.args.points.now.items c.loop-step.points.items c.loop-step.at c.loop-step._step (let l = c.loop-step-test.false in omega arith) c.loop-step.invariant }
