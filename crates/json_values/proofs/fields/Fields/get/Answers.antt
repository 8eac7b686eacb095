use Rattle.std.proofs.Common.{◌≡◌, arith, sym, Some}
use Rattle.std.specs.Prelude.{slice_get}
use Rattle.std.proofs.lemmas.Grind.{common_steps}
use Rattle.std.proofs.lemmas.Option.{gets}
use Rattle.json_values.proofs.NamedValues.{value_at_place, value_of_new}
use Rattle.json_values.proofs.fields.Fields.get.Goals as goal

pub returns-in-Some : goal.returns-in-Some
returns-in-Some c =
    let e : slice_get c.self.inside.entries.items c.in-Some.place ≡ Some c.index.result.now = grind (arith, common_steps, gets) in
    rw (← c.self.view_is) (record { found = sym (value_at_place c.args.name.now c.self.inside.entries.items c.in-Some.place c.index.result.now e (rw c.deref.ensures.value at c.in-Some.ensures.some)) })

pub returns-in-None : goal.returns-in-None
returns-in-None c = rw (← c.self.view_is) (record { found = sym (value_of_new c.args.name.now c.self.inside.entries.items (rw c.deref.ensures.value at c.in-None.ensures.none)) })
