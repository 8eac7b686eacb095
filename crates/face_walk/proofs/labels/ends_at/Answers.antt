use Rattle.std.proofs.Common.{◌≡◌, ◌∙◌, ◌-◌, ◌≤◌, ap, sym, arith, ℕ, length}
use Rattle.face_walk.specs.declared.ring_steps.RingStep.{RingStep}
use Rattle.face_walk.proofs.RunPlaces.{at_place, not_at_place, ended, differs}
use Rattle.face_walk.proofs.labels.ends_at.Goals as goal

abbrev arc_of : RingStep → ℕ
arc_of s = s.arc

pub returns-then-stop-steps-clause-parted : goal.returns-then-stop-steps-clause-parted
returns-then-stop-steps-clause-parted c = λ _.
    (let steps = c.args.steps.now in
    let stop = c.args.stop in
    let n : ℕ = c.args.arc in
    let some = c.if-stop-eq0.false in
    let bound : stop ≤ length steps = c.if-steps-stop.false in
    let last : stop ≡ length steps = c.if-stop-steps.true in
    ended arc_of steps n c.requires.by_arc stop (omega arith) bound
    (at_place arc_of steps n (stop - 1) c.index-steps-stop.result (omega arith) c.index-steps-stop.is (ap arc_of c.index-steps-stop.is ∙ sym c.num.ensures.exact ∙ c.if-num.false ∙ c.num-2.ensures.exact))
    (λ d l. absurd (omega arith)))

pub returns-clause-parted : goal.returns-clause-parted
returns-clause-parted c = λ e.
    (let steps = c.args.steps.now in
    let stop = c.args.stop in
    let n : ℕ = c.args.arc in
    let some = c.if-stop-eq0.false in
    let bound : stop ≤ length steps = c.if-steps-stop.false in
    ended arc_of steps n c.requires.by_arc stop (omega arith) bound
    (at_place arc_of steps n (stop - 1) c.index-steps-stop.result (omega arith) c.index-steps-stop.is (ap arc_of c.index-steps-stop.is ∙ sym c.num.ensures.exact ∙ c.if-num.false ∙ c.num-2.ensures.exact))
    (λ d l. not_at_place arc_of steps n stop c.index-steps-stop-2.result l c.index-steps-stop-2.is
    (differs c.num-3.result c.num-4.result c.index-steps-stop-2.result.arc n e (c.num-3.ensures.exact ∙ sym (ap arc_of c.index-steps-stop-2.is)) c.num-4.ensures.exact) d))
