use Rattle.std.proofs.Common.{List, ℕ, arith, length-append}
use Rattle.json_values.specs.declared.json.Json.{Json}
use Rattle.json_values.proofs.Putting.{last_seen, pushed, distinct_pushed}
use Rattle.json_values.proofs.json.JsonFields.push_last.Goals as goal

pub invariant_of-self-2 : goal.invariant_of-self-2
invariant_of-self-2 c =
    rw c.in_ok-push.ensures.items (omega (arith, length-append {A = List ℕ × Json}), distinct_pushed c.self.inside.fields.items c.args.name c.args.value (last_seen c.self.inside.fields.items c.args.self.now c.args.name c.self.view_is c.requires.last) c.self.invariant.1)

pub returns-clause-ok : goal.returns-clause-ok
returns-clause-ok c =
    rw (c.in_ok-push.ensures.items, ← c.self.view_is) (pushed c.self.inside.fields.items c.args.name c.args.value (last_seen c.self.inside.fields.items c.args.self.now c.args.name c.self.view_is c.requires.last))
