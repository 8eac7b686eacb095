use Rattle.std.proofs.Common.{refl, sym, subst, inl, inr, Contains, arith}
use Rattle.arc_table.proofs.Others.{row_start, led_over, led_through}
use Rattle.arc_table.proofs.half_links.lead_through.Goals.{then-last-first-ne1-via-then-last-first-ne1, then-last-first-ne1-via-else-last-first-ne1+then-has_point}
use Rattle.arc_table.proofs.half_links.lead_through.Goals as goal

pub returns-then-last-first-ne1-clause-led : goal.returns-then-last-first-ne1-clause-led
returns-then-last-first-ne1-clause-led c =
    let steps = c.args.steps.now in
    let turns = c.args.turns.now in
    let rs = c.requires in
    led_over steps turns c.args.first c.args.last rs.ordered rs.row c.args.twins.now c.args.onward.now.items rs.led (elim c.then-last-first-ne1.branch [
      | then-last-first-ne1-via-then-last-first-ne1 w ↦ inl (let apart = w.if-last-first-ne1.true in λ e. apart (omega arith))
      | then-last-first-ne1-via-else-last-first-ne1+then-has_point w ↦ inr
          (subst (Contains turns) (row_start steps turns c.args.first c.args.last rs.ordered rs.row w.from.result (w.at.result, w.at.ensures.exact, sym w.from.ensures.exact)) (w.if-has_point.ensures.yes refl))
    ])

pub returns-clause-led : goal.returns-clause-led
returns-clause-led c =
    let steps = c.args.steps.now in
    let turns = c.args.turns.now in
    let rs = c.requires in
    let start = row_start steps turns c.args.first c.args.last rs.ordered rs.row c.from.result (c.at.result, c.at.ensures.exact, sym c.from.ensures.exact) in
    let two = c.if-last-first-ne1.false in
    led_through steps turns c.args.first c.args.last rs.ordered rs.row c.args.twins.now c.args.onward.now.items rs.led rs.mutual rs.all (omega arith)
    (λ turn. c.if-has_point.ensures.no refl (subst (Contains turns) (sym start) turn))
