use Rattle.std.proofs.Common.{◌≡◌, ◌+◌, ◌-◌, ◌++◌, ℕ, suc, length, arith, ap, ◌∙◌}
use Rattle.std.proofs.lemmas.List.{length_push}
use Rattle.plane_model.specs.Points.{Path}
use Rattle.arc_table.specs.Numbering.{ends_along, points_along}
use Rattle.arc_table.proofs.WayPoints.{begun, more, ended}
use Rattle.arc_table.proofs.numbering.points_along.Goals as goal

pub loop-step-init : goal.loop-step-init
loop-step-init c =
    let net = c.args.net.now in
    let way = c.args.way in
    let one = ap (λ (ps : Path). length ps) c.in_ok-push.ensures.items ∙ length_push c.clear.new.self.items c.from.result in
    let none = ap (λ (ps : Path). length ps) c.clear.ensures.items in
    let all : way.steps - 0 ≡ way.steps = omega arith in (
      c.requires.there,
      omega arith,
      ap (λ (n : ℕ). c.push.new.self.items ++ ends_along net n way.start) all
          ∙ begun net way c.step.result c.from.result c.clear.new.self.items c.push.new.self.items c.step.ensures.exact c.from.ensures.exact c.clear.ensures.items c.in_ok-push.ensures.items,
    )

pub loop-step-preserved : goal.loop-step-preserved
loop-step-preserved c =
    let net = c.args.net.now in
    let way = c.args.way in
    let k = c.loop-step._step in
    let grown = ap (λ (ps : Path). length ps) c.in_ok-push-2.ensures.items ∙ length_push c.loop-step.points.items c.to.result in
    let number = c.loop-step.invariant.1 in
    let left : way.steps - k ≡ suc (way.steps - (k + 1)) = omega arith in (
      c.next-at.ensures.there,
      omega arith,
      more net c.loop-step.points.items c.push-in-loop-step.new.self.items (points_along net way) (way.steps - k) (way.steps - (k + 1)) c.loop-step.at c.next-at.result c.step-in-loop-step.result c.to.result
          left c.step-in-loop-step.ensures.exact c.to.ensures.exact c.next-at.ensures.exact c.in_ok-push-2.ensures.items c.loop-step.invariant.2,
    )

pub returns-clause-exact : goal.returns-clause-exact
returns-clause-exact c =
    ended c.args.net.now c.loop-step.points.items (points_along c.args.net.now c.args.way) (c.args.way.steps - c.loop-step._step) c.loop-step.at (omega arith) c.loop-step.invariant.2
