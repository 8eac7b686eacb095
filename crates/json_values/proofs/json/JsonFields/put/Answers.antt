use Rattle.json_values.proofs.Putting.{last_shown, at_shown}
use Rattle.json_values.proofs.json.JsonFields.put.Goals as goal

pub set-requires : goal.set-requires
set-requires c = record { there = at_shown c.self.inside.fields.items c.args.self.now c.args.name _ c.in-Some.place c.self.view_is c.as_str.ensures.lent (rw c.deref.ensures.value at c.in-Some.ensures.some) }

pub push_last-requires : goal.push_last-requires
push_last-requires c = record { last = last_shown c.self.inside.fields.items c.args.self.now c.args.name _ c.self.view_is c.as_str.ensures.lent (rw c.deref.ensures.value at c.in-None.ensures.none) }
