use Rattle.std.proofs.Common.{List, ℕ, ◌≡◌, sym, subst, arith, length-set}
use Rattle.std.specs.Prelude.{OnOk}
use Rattle.json_values.specs.Table.{NamedValues, IsNewName, IsPlaceOf, AreDistinctNames}
use Rattle.json_values.proofs.NamedValues.{Field, names_at_place, put_at_place, place_within, put_new}
use Rattle.json_values.proofs.fields.Fields.put.Goals as goal

pub set_field-requires : goal.set_field-requires
set_field-requires c = record { within = place_within c.self.inside.entries.items _ c.in-Some.place (rw c.deref.ensures.value at c.in-Some.ensures.some) }

pub invariant_of-self : goal.invariant_of-self
invariant_of-self c =
    let at : IsPlaceOf c.args.name c.self.inside.entries.items c.in-Some.place = subst (λ (n : List ℕ). IsPlaceOf n c.self.inside.entries.items c.in-Some.place) c.as_str.ensures.lent (rw c.deref.ensures.value at c.in-Some.ensures.some) in
    rw c.set_field.ensures.exact (omega (arith, length-set {A = Field}), subst (λ (ns : List (List ℕ)). AreDistinctNames ns) (sym (names_at_place c.args.name c.args.value c.self.inside.entries.items c.in-Some.place at)) c.self.invariant.1)

pub returns-in-Some-clause-ok : goal.returns-in-Some-clause-ok
returns-in-Some-clause-ok c =
    let at : IsPlaceOf c.args.name c.self.inside.entries.items c.in-Some.place = subst (λ (n : List ℕ). IsPlaceOf n c.self.inside.entries.items c.in-Some.place) c.as_str.ensures.lent (rw c.deref.ensures.value at c.in-Some.ensures.some) in
    rw (c.set_field.ensures.exact, ← c.self.view_is) (sym (put_at_place c.args.name c.args.value c.self.inside.entries.items c.in-Some.place at))

pub push_new-requires : goal.push_new-requires
push_new-requires c = record { new = subst (λ (fs : NamedValues). IsNewName c.args.name fs) c.self.view_is (subst (λ (n : List ℕ). IsNewName n c.self.inside.entries.items) c.as_str.ensures.lent (rw c.deref.ensures.value at c.in-None.ensures.none)) }

pub returns-in-None-clause-ok : goal.returns-in-None-clause-ok
returns-in-None-clause-ok c =
    let new : IsNewName c.args.name c.args.self.now = subst (λ (fs : NamedValues). IsNewName c.args.name fs) c.self.view_is (subst (λ (n : List ℕ). IsNewName n c.self.inside.entries.items) c.as_str.ensures.lent (rw c.deref.ensures.value at c.in-None.ensures.none)) in
    subst (λ (fs : NamedValues). OnOk c.push_new.result (c.push_new.new.self ≡ fs)) (sym (put_new c.args.name c.args.value c.args.self.now new)) c.push_new.ensures.ok
