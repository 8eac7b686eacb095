use Rattle.std.proofs.Common.{◌≡◌, ℕ, length, get_or, inl, inr, sym, ap, subst, ◌∙◌, add-one, arith}
use Rattle.std.specs.Prelude.{◌≢◌}
use Rattle.std.proofs.lemmas.Bool.{cases_lt}
use Rattle.arc_table.specs.Numbering.{place_after}
use Rattle.arc_table.proofs.Marks.{place_more}
use Rattle.arc_table.proofs.Rounds.{not_round}
use Rattle.arc_table.proofs.numbering.last_on.Goals as goal

pub returns-then-next-at-clause-exact : goal.returns-then-next-at-clause-exact
returns-then-next-at-clause-exact c = record { steps = c.loop-step._step; there = c.loop-step.invariant.1; ends = sym c.next-next.ensures.exact ∙ c.if-next-at.true }

pub returns-then-next-first-clause-exact : goal.returns-then-next-first-clause-exact
returns-then-next-first-clause-exact c =
    let onward = c.args.net.now.onward.items in
    let k = c.loop-step._step in
    let inv = c.loop-step.invariant in
    let moves : get_or onward (place_after onward k c.args.first) 0 ≢ place_after onward k c.args.first = subst (λ (j : ℕ). get_or onward j 0 ≢ j) inv.1 (λ e. c.if-next-at.false (c.next-next.ensures.exact ∙ e)) in
    record {
      steps = k;
      goes = λ j l. elim (cases_lt j k) [
        | inl m ↦ (inv.2 j m).0
        | inr m ↦ (let e : k ≡ j = omega arith in subst (λ (i : ℕ). get_or onward (place_after onward i c.args.first) 0 ≢ place_after onward i c.args.first) e moves)
      ];
      round = ap (λ (j : ℕ). get_or onward j 0) (sym inv.1) ∙ sym c.next-next.ensures.exact ∙ c.if-next-first.true;
    }

pub loop-step-preserved : goal.loop-step-preserved
loop-step-preserved c =
    let onward = c.args.net.now.onward.items in
    let first = c.args.first in
    let k = c.loop-step._step in
    let inv = c.loop-step.invariant in
    let moves : get_or onward (place_after onward k first) 0 ≢ place_after onward k first = subst (λ (j : ℕ). get_or onward j 0 ≢ j) inv.1 (λ e. c.if-next-at.false (c.next-next.ensures.exact ∙ e)) in
    let leaves : get_or onward (place_after onward k first) 0 ≢ first = subst (λ (j : ℕ). get_or onward j 0 ≢ first) inv.1 (λ e. c.if-next-first.false (c.next-next.ensures.exact ∙ e)) in (
      c.next-next.ensures.there,
      c.next-next.ensures.exact ∙ ap (λ (j : ℕ). get_or onward j 0) inv.1 ∙ sym (place_more onward k first) ∙ sym (ap (λ (j : ℕ). place_after onward j first) (add-one k)),
      (λ j l. elim (cases_lt j k) [
        | inl m ↦ inv.2 j m
        | inr m ↦ (let e : k ≡ j = omega arith in (
          subst (λ (i : ℕ). get_or onward (place_after onward i first) 0 ≢ place_after onward i first) e moves,
          subst (λ (i : ℕ). get_or onward (place_after onward i first) 0 ≢ first) e leaves,
        ))
      ]),
    )

pub returns-clause-exact : goal.returns-clause-exact
returns-clause-exact c =
    let net = c.args.net.now in
    let inv = c.loop-step.invariant in
    let whole : c.loop-step._step ≡ length net.steps = omega arith in
    absurd (not_round net c.args.first c.requires (λ j l. inv.2 j (omega arith)))
