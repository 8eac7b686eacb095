use Rattle.std.proofs.Common.{arith}
use Rattle.json_values.proofs.Sameness.{items_differ, fields_differ}
use Rattle.json_values.proofs.json.+comparing.Goals as goal

pub JsonFields::same-returns-then-len : goal.JsonFields::same-returns-then-len
JsonFields::same-returns-then-len t c = record { exact = rw (← c.self.view_is, ← c.o.view_is) (fields_differ c.self.inside.fields.items c.o.inside.fields.items (λ e. c.if-len.true (omega (arith, e)))) }

pub JsonList::same-returns-then-len : goal.JsonList::same-returns-then-len
JsonList::same-returns-then-len t c = record { exact = rw (← c.self.view_is, ← c.o.view_is) (items_differ c.self.inside.items.items c.o.inside.items.items (λ e. c.if-len.true (omega (arith, e)))) }
