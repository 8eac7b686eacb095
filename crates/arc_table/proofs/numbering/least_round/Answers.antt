use Rattle.std.proofs.Common.{ℕ, ◌≡◌, get_or, inl, inr, sym, ap, subst, ◌∙◌, add-one, arith}
use Rattle.arc_table.specs.Numbering.{place_after, IsRoundFrom}
use Rattle.arc_table.proofs.Marks.{place_more}
use Rattle.arc_table.proofs.Rounds.{IsLeastAt, away_more, least_all, least_more, not_round, round_less}
use Rattle.arc_table.proofs.Runs.{twin}
use Rattle.arc_table.proofs.numbering.least_round.Goals as goal

pub returns-then-at-first-clause-round : goal.returns-then-at-first-clause-round
returns-then-at-first-clause-round c =
    let net = c.args.net.now in
    let first = c.args.first in
    let inv = c.loop-step.invariant in
    let at_from : IsRoundFrom net first c.loop-step.at = (c.loop-step._step, inl inv.2) in
    let twin_from : IsRoundFrom net first c.twin.result = (c.loop-step._step, inr (c.twin.ensures.exact ∙ ap (twin net) inv.2)) in
    let one : IsRoundFrom net first c.min.result = subst (IsRoundFrom net first) (sym c.min.ensures) (round_less net first c.loop-step.least c.loop-step.at inv.3 at_from) in
    subst (IsRoundFrom net first) (sym c.min-least.ensures) (round_less net first c.min.result c.twin.result one twin_from)

pub returns-then-at-first-clause-least : goal.returns-then-at-first-clause-least
returns-then-at-first-clause-least c goes =
    let net = c.args.net.now in
    let first = c.args.first in
    let k = c.loop-step._step in
    let inv = c.loop-step.invariant in
    let e = c.min.ensures in
    let f = c.min-least.ensures in
    let back : get_or net.onward.items (place_after net.onward.items k first) 0 ≡ first = ap (λ (j : ℕ). get_or net.onward.items j 0) (sym inv.2) ∙ sym c.next-at.ensures.exact ∙ c.if-at-first.true in
    let here : IsLeastAt net c.min-least.result c.loop-step.at = (omega arith, (let g = c.twin.ensures.exact in omega arith)) in
    least_all net first k c.min-least.result back (λ j l. least_more net first k c.loop-step.at c.loop-step.least c.min-least.result inv.2 (omega arith) here inv.4 j (omega arith))

pub returns-clause-least : goal.returns-clause-least
returns-clause-least c goes =
    let net = c.args.net.now in
    let inv = c.loop-step.invariant in
    let done = c.loop-step-test.false in
    let all = c.step_count-step-end.ensures.exact in
    absurd (not_round net c.args.first c.requires (λ j l. (goes j, inv.5 j (omega arith))))

pub loop-step-preserved : goal.loop-step-preserved
loop-step-preserved c =
    let net = c.args.net.now in
    let onward = net.onward.items in
    let first = c.args.first in
    let k = c.loop-step._step in
    let inv = c.loop-step.invariant in
    let at_from : IsRoundFrom net first c.loop-step.at = (k, inl inv.2) in
    let twin_from : IsRoundFrom net first c.twin.result = (k, inr (c.twin.ensures.exact ∙ ap (twin net) inv.2)) in
    let one : IsRoundFrom net first c.min.result = subst (IsRoundFrom net first) (sym c.min.ensures) (round_less net first c.loop-step.least c.loop-step.at inv.3 at_from) in
    let back_there = c.twin.ensures.there in
    let there = inv.0 in
    let least_there = inv.1 in
    let e = c.min.ensures in
    let f = c.min-least.ensures in (
      c.next-at.ensures.there,
      omega arith,
      c.next-at.ensures.exact ∙ ap (λ (j : ℕ). get_or onward j 0) inv.2 ∙ sym (place_more onward k first) ∙ sym (ap (λ (j : ℕ). place_after onward j first) (add-one k)),
      subst (IsRoundFrom net first) (sym c.min-least.ensures) (round_less net first c.min.result c.twin.result one twin_from),
      least_more net first k c.loop-step.at c.loop-step.least c.min-least.result inv.2 (omega arith) (omega arith, (let g = c.twin.ensures.exact in omega arith)) inv.4,
      away_more net first k c.loop-step.at c.next-at.result inv.2 c.next-at.ensures.exact c.if-at-first.false inv.5,
    )
