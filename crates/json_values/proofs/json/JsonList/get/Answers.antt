use Rattle.std.proofs.Common.{◌≡◌, arith, ap, slice_get, Option}
use Rattle.std.proofs.lemmas.Grind.{common_steps}
use Rattle.std.proofs.lemmas.Option.{gets}
use Rattle.std.specs.Option.{option_copied, option_map}
use Rattle.json_values.specs.Seen.{json_value}
use Rattle.json_values.specs.declared.json.Json.{Json}
use Rattle.json_values.proofs.Seen.{slice_get-items_seen}
use Rattle.json_values.proofs.json.JsonList.get.Goals as goal

pub returns : goal.returns
returns c =
    let e : option_copied c.get.result ≡ slice_get c.self.inside.items.items c.args.i = grind (arith, common_steps, gets, c.get.ensures.lookup) in
    rw (← c.self.view_is) (record { lookup = rw (slice_get-items_seen c.self.inside.items.items c.args.i) (ap (λ (o : Option Json). option_map json_value o) e) })
