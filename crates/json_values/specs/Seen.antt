-- The value that a `Json` stands for.
use Rattle.std.specs.Prelude.{ℕ, List, map}
use Rattle.json_values.specs.Json.{JsonValue, ItemList, FieldList, null, boolean, number, string, array, object, items_of, fields_of}
use Rattle.json_values.specs.declared.json.Json.{Json}
use Rattle.json_values.specs.declared.json.Json.TheVariants as json

abbrev pub json_value : Json → JsonValue
json_value json.Null = null
json_value (json.Bool b) = boolean b
json_value (json.Num t) = number t
json_value (json.Text t) = string t
json_value (json.List items) = array items
json_value (json.Object fields) = object fields

abbrev pub items_seen : List Json → ItemList
items_seen vs = items_of (map json_value vs)

-- names and values
abbrev pub members_seen : List (List ℕ × Json) → List (List ℕ × JsonValue)
members_seen fs = map (λ f. (f.0, json_value f.1)) fs

abbrev pub fields_seen : List (List ℕ × Json) → FieldList
fields_seen fs = fields_of (members_seen fs)
