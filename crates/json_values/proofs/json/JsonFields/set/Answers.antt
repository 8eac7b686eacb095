use Rattle.std.proofs.Common.{List, ℕ, arith, length-set}
use Rattle.std.proofs.lemmas.List.{length-map}
use Rattle.json_values.specs.Json.{JsonValue}
use Rattle.json_values.specs.Putting.{PutsAt}
use Rattle.json_values.specs.Seen.{json_value, members_seen}
use Rattle.json_values.specs.declared.json.Json.{Json}
use Rattle.json_values.proofs.Putting.{at_seen, written, distinct_written}
use Rattle.json_values.proofs.json.JsonFields.set.Goals as goal

pub set_field-requires : goal.set_field-requires
set_field-requires c =
    let at : PutsAt (members_seen c.self.inside.fields.items) c.args.name c.args.place = at_seen c.self.inside.fields.items c.args.self.now c.args.name c.args.place c.self.view_is c.requires.there in
    record { within = omega (arith, at.0, length-map {B = List ℕ × JsonValue} c.self.inside.fields.items (λ (f : List ℕ × Json). (f.0, json_value f.1))) }

pub invariant_of-self : goal.invariant_of-self
invariant_of-self c =
    rw c.set_field.ensures.exact (omega (arith, length-set {A = List ℕ × Json}), distinct_written c.self.inside.fields.items c.args.name c.args.value c.args.place (at_seen c.self.inside.fields.items c.args.self.now c.args.name c.args.place c.self.view_is c.requires.there) c.self.invariant.1)

pub returns : goal.returns
returns c =
    record { exact = rw (c.set_field.ensures.exact, ← c.self.view_is) (written c.self.inside.fields.items c.args.name c.args.value c.args.place (at_seen c.self.inside.fields.items c.args.self.now c.args.name c.args.place c.self.view_is c.requires.there)) }
