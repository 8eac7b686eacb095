use Rattle.std.proofs.Common.{◌≡◌, ◌∙◌, sym, ap, arith, true, false, not, nat_eq}
use Rattle.std.proofs.lemmas.Bool.{eq-eqb, eqb-true, not-false}
use Rattle.face_sets.proofs.PartLemmas.{begins_after, goes_on_after}
use Rattle.face_sets.proofs.part_sets.begins_part.Goals as goal

pub returns-else-i-eq0-clause-begins : goal.returns-else-i-eq0-clause-begins
returns-else-i-eq0-clause-begins c = λ e.
    begins_after c.args.numbered.now c.args.i c.part_at.result c.part_at-else-i-eq0.result c.requires.in_order c.requires.place c.part_at.ensures.exact c.part_at-else-i-eq0.ensures.exact
    (λ same. let h : true ≡ false = sym e ∙ ap not (eq-eqb c.part_at.result c.part_at-else-i-eq0.result same) in absurd (cc))

pub returns-else-i-eq0-clause-goes_on : goal.returns-else-i-eq0-clause-goes_on
returns-else-i-eq0-clause-goes_on c = λ e.
    let no = c.if-i-eq0.false in
    goes_on_after c.args.numbered.now c.args.i c.part_at.result c.part_at-else-i-eq0.result (omega arith) c.requires.place c.part_at.ensures.exact c.part_at-else-i-eq0.ensures.exact
    (eqb-true c.part_at.result c.part_at-else-i-eq0.result (not-false (nat_eq c.part_at.result c.part_at-else-i-eq0.result) e))
