use Rattle.std.proofs.Common.{◌≡◌, ◌∙◌, ◌-◌, ◌<◌, ap, sym, arith, ℕ, length}
use Rattle.face_walk.specs.declared.ring_steps.RingStep.{RingStep}
use Rattle.face_walk.proofs.RunPlaces.{at_place, not_at_place, begun, differs}
use Rattle.face_walk.proofs.labels.begins_at.Goals as goal

abbrev arc_of : RingStep → ℕ
arc_of s = s.arc

pub returns-then-first-eq0-clause-parted : goal.returns-then-first-eq0-clause-parted
returns-then-first-eq0-clause-parted c = λ _.
    (let steps = c.args.steps.now in
    let first = c.args.first in
    let n : ℕ = c.args.arc in
    let bound : first < length steps = c.if-first-steps.false in
    let zeroth : first ≡ 0 = c.if-first-eq0.true in
    begun arc_of steps n c.requires.by_arc first bound
    (at_place arc_of steps n first c.index-steps-first.result bound c.index-steps-first.is (ap arc_of c.index-steps-first.is ∙ sym c.num.ensures.exact ∙ c.if-num.false ∙ c.num-2.ensures.exact))
    (λ d l. absurd (omega arith)))

pub returns-clause-parted : goal.returns-clause-parted
returns-clause-parted c = λ e.
    (let steps = c.args.steps.now in
    let first = c.args.first in
    let n : ℕ = c.args.arc in
    let bound : first < length steps = c.if-first-steps.false in
    begun arc_of steps n c.requires.by_arc first bound
    (at_place arc_of steps n first c.index-steps-first.result bound c.index-steps-first.is (ap arc_of c.index-steps-first.is ∙ sym c.num.ensures.exact ∙ c.if-num.false ∙ c.num-2.ensures.exact))
    (λ d l. not_at_place arc_of steps n (first - 1) c.index-steps-first-2.result (omega arith) c.index-steps-first-2.is
    (differs c.num-3.result c.num-4.result c.index-steps-first-2.result.arc n e (c.num-3.ensures.exact ∙ sym (ap arc_of c.index-steps-first-2.is)) c.num-4.ensures.exact) d))
