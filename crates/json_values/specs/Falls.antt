-- Each value is less deep than the array or the object that holds it.
use Rattle.std.specs.Prelude.{ℕ, ◌≤◌, List, [], ◌∷◌}
use Rattle.std.proofs.Common.{arith}
use denote.Param.Weighed.{most}
use Rattle.json_values.specs.Json.{items_depth, fields_depth, depth}
use Rattle.json_values.specs.Seen.{json_value, items_seen, fields_seen}
use Rattle.json_values.specs.declared.json.Json.{Json}
use Rattle.json_values.specs.declared.json.Json.TheVariants as json
use Rattle.json_values.specs.declared.json.JsonFields.TheDeep.{deep-Json}
use Rattle.json_values.specs.declared.json.Json.TheVariants.{the_data}
use Rattle.json_values.specs.declared.json.JsonFields.TheShapes.{weighed-JsonFields-fields-at-2}

pub deep-depth : (j : Json) → deep-Json j ≤ depth (json_value j)
deep-depth json.Null = omega arith
deep-depth (json.Bool b) = omega arith
deep-depth (json.Num t) = omega arith
deep-depth (json.Text t) = omega arith
deep-depth (json.List js) = omega arith
deep-depth (json.Object fs) = omega arith

pub items_fall : (vs : List Json) → most deep-Json vs ≤ items_depth (items_seen vs)
items_fall [] = omega arith
items_fall (v ∷ vs) = omega (arith, deep-depth v, items_fall vs)

pub fields_fall : (fs : List (List ℕ × Json)) → most (λ f. weighed-JsonFields-fields-at-2.weight the_data deep-Json f) fs ≤ fields_depth (fields_seen fs)
fields_fall [] = omega arith
fields_fall (f ∷ fs) = omega (arith, deep-depth f.1, fields_fall fs)
