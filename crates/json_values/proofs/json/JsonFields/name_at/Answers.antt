use Rattle.std.proofs.Common.{arith, ◌≡◌, ap, List, ℕ, slice_get, Some, None}
use Rattle.std.proofs.lemmas.Grind.{common_steps}
use Rattle.std.proofs.lemmas.Option.{gets}
use Rattle.json_values.proofs.Seen.{slice_get-fields_seen}
use Rattle.json_values.proofs.json.JsonFields.name_at.Goals as goal

pub returns-in-Some : goal.returns-in-Some
returns-in-Some c =
    let e : slice_get c.self.inside.fields.items c.args.i ≡ Some c.in-Some.field.now = grind (arith, common_steps, gets, c.get.ensures.lookup) in
    rw (← c.self.view_is) (record { lookup = rw (slice_get-fields_seen c.self.inside.fields.items c.args.i, e) (ap (λ (t : List ℕ). Some t) c.as_str.ensures.lent) })

pub returns-in-None : goal.returns-in-None
returns-in-None c =
    let e : slice_get c.self.inside.fields.items c.args.i ≡ None = grind (arith, common_steps, gets, c.get.ensures.lookup) in
    rw (← c.self.view_is) (record { lookup = rw (slice_get-fields_seen c.self.inside.fields.items c.args.i, e) })
