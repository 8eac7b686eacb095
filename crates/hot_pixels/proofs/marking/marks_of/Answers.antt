use Rattle.std.proofs.Common.{List, Bool, subst}
use Rattle.hot_pixels.specs.Marking.{IsSeen}
use Rattle.hot_pixels.proofs.MarkingLemmas.{are_marks_more}
use Rattle.hot_pixels.proofs.marking.marks_of.Goals as goal

pub loop-p-preserved : goal.loop-p-preserved
loop-p-preserved c =
    let edges = c.args.edges.now in
    let lasts = c.gather_near.new.lasts.items in
    let meetings = c.gather_near.new.meetings.items in
    let is_inner = c.in_ok-is_inner.is_inner in
    let p = c.p-item.result in
    are_marks_more edges c.args.points.now c.mark_crowds.new.marks.items c.loop-p.lasts.items lasts c.loop-p.meetings.items meetings is_inner c.loop-p.inner.items c.push_if.new.points.items c.loop-p.p-index p
    c.loop-p-test.true c.p-item.is c.in_ok-is_inner.ensures.adds
    (λ i. subst (λ (crowded : List Bool). IsSeen edges crowded lasts meetings is_inner p i) c.deref.ensures.value (c.in_ok-is_inner.ensures.seen i))
    c.in_ok-push_if.ensures.ok c.loop-p.invariant
