use Rattle.std.proofs.Common.{arith, ◌∙◌, sym, ap, List, ℕ}
use Rattle.std.specs.Str.{bytes_eq}
use Rattle.json_values.proofs.Putting.{puts_at, differs_more, differs_all, found_at, found_nowhere}
use Rattle.json_values.proofs.json.place_of.Goals as goal

pub returns-then-eq-clause-some : goal.returns-then-eq-clause-some
returns-then-eq-clause-some c =
    puts_at c.args.fields.now c.args.name.now c.loop-i.i c.index-fields-i.result (omega arith) c.index-fields-i.is c.loop-i.invariant (ap (λ (x : List ℕ). bytes_eq x c.args.name.now) (sym c.as_str.ensures.lent) ∙ sym c.eq.ensures ∙ c.if-eq.true)

pub loop-i-preserved : goal.loop-i-preserved
loop-i-preserved c =
    differs_more c.args.fields.now c.args.name.now c.loop-i.i c.index-fields-i.result (omega arith) c.index-fields-i.is c.loop-i.invariant (ap (λ (x : List ℕ). bytes_eq x c.args.name.now) (sym c.as_str.ensures.lent) ∙ sym c.eq.ensures ∙ c.if-eq.false)

pub returns-clause-none : goal.returns-clause-none
returns-clause-none c = differs_all c.args.fields.now c.args.name.now c.loop-i.i (omega arith) c.loop-i.invariant

pub returns-then-eq-clause-present : goal.returns-then-eq-clause-present
returns-then-eq-clause-present c =
    found_at c.args.fields.now c.args.name.now c.loop-i.i c.index-fields-i.result (omega arith) c.index-fields-i.is c.loop-i.invariant (ap (λ (x : List ℕ). bytes_eq x c.args.name.now) (sym c.as_str.ensures.lent) ∙ sym c.eq.ensures ∙ c.if-eq.true)

pub returns-clause-absent : goal.returns-clause-absent
returns-clause-absent c = found_nowhere c.args.fields.now c.args.name.now c.loop-i.i (omega arith) c.loop-i.invariant
