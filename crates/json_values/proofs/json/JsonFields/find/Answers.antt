use Rattle.std.proofs.Common.{◌≡◌, arith, sym, slice_get, Some}
use Rattle.std.proofs.lemmas.Grind.{common_steps}
use Rattle.std.proofs.lemmas.Option.{gets}
use Rattle.json_values.proofs.Seen.{fields_list-seen}
use Rattle.json_values.proofs.json.JsonFields.find.Goals as goal

pub returns-in-Some : goal.returns-in-Some
returns-in-Some c =
    let e : slice_get c.self.inside.fields.items c.in-Some.place ≡ Some c.index.result.now = grind (arith, common_steps, gets) in
    rw (← c.self.view_is) (record { found = rw (fields_list-seen c.self.inside.fields.items) (rw (rw c.deref.ensures.value at c.in-Some.ensures.present) (rw e)) })

pub returns-in-None : goal.returns-in-None
returns-in-None c = rw (← c.self.view_is) (record { found = rw (fields_list-seen c.self.inside.fields.items) (sym (rw c.deref.ensures.value at c.in-None.ensures.absent)) })
