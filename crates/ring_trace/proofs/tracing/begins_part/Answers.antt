use Rattle.std.proofs.Common.{◌≡◌, inl, sym, ap, ◌∙◌, arith, true, false, not, nat_eq}
use Rattle.std.proofs.lemmas.Bool.{eq-eqb, eqb-true, not-false}
use Rattle.ring_trace.proofs.GatherLemmas.{part_begins, part_stays}
use Rattle.ring_trace.proofs.tracing.begins_part.Goals as goal

pub returns-then-i-gt0-clause-begins : goal.returns-then-i-gt0-clause-begins
returns-then-i-gt0-clause-begins c = λ e.
    part_begins c.args.keys.now c.args.i c.part_at.result c.part_at-then-i-gt0.result c.requires.in_order c.if-i-gt0.true c.requires.place c.part_at.ensures.exact c.part_at-then-i-gt0.ensures.exact
    (λ same. let h : true ≡ false = sym e ∙ ap not (eq-eqb c.part_at.result c.part_at-then-i-gt0.result same) in absurd (cc))

pub returns-then-i-gt0-clause-stays : goal.returns-then-i-gt0-clause-stays
returns-then-i-gt0-clause-stays c = λ e.
    part_stays c.args.keys.now c.args.i c.part_at.result c.part_at-then-i-gt0.result c.if-i-gt0.true c.requires.place c.part_at.ensures.exact c.part_at-then-i-gt0.ensures.exact
    (eqb-true c.part_at.result c.part_at-then-i-gt0.result (not-false (nat_eq c.part_at.result c.part_at-then-i-gt0.result) e))

pub returns-else-i-gt0-clause-stays : goal.returns-else-i-gt0-clause-stays
returns-else-i-gt0-clause-stays c = λ e d. let no = c.if-i-gt0.false in inl (omega arith)
