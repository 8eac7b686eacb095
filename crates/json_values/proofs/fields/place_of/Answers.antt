use Rattle.std.proofs.Common.{arith, ap, sym, ◌∙◌, List, ℕ}
use Rattle.std.specs.Str.{bytes_eq}
use Rattle.json_values.proofs.NamedValues.{place_found, searched_more, searched_all}
use Rattle.json_values.proofs.fields.place_of.Goals as goal

pub returns-then-eq-clause-some : goal.returns-then-eq-clause-some
returns-then-eq-clause-some c =
    place_found c.args.fields.now c.args.name.now c.loop-i.i c.index-fields-i.result (omega arith) c.index-fields-i.is c.loop-i.invariant (ap (λ (x : List ℕ). bytes_eq c.args.name.now x) (sym c.as_str.ensures.lent) ∙ sym c.eq.ensures ∙ c.if-eq.true)

pub loop-i-preserved : goal.loop-i-preserved
loop-i-preserved c =
    searched_more c.args.fields.now c.args.name.now c.loop-i.i c.index-fields-i.result (omega arith) c.index-fields-i.is c.loop-i.invariant (ap (λ (x : List ℕ). bytes_eq c.args.name.now x) (sym c.as_str.ensures.lent) ∙ sym c.eq.ensures ∙ c.if-eq.false)

pub returns-clause-none : goal.returns-clause-none
returns-clause-none c = searched_all c.args.fields.now c.args.name.now c.loop-i.i (omega arith) c.loop-i.invariant
