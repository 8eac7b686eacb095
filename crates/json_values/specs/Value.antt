-- The values of table cells, which are the variants of `Value`, and their texts.
use Rattle.std.specs.Prelude.{ℕ, Bool, true, false, ◌&&◌, ℤ, List, [], codes, Option, Some, None}
use Rattle.std.specs.Bool.{beq}
use Rattle.std.specs.Ordering.{int_eq}
use Rattle.std.specs.Str.{bytes_eq}
use Rattle.json_values.specs.Json.{JsonValue, ItemList, FieldList, null, boolean, number, string, array, object, no_items, item, no_fields, field}
use Rattle.json_values.specs.Seen.{json_value}
use Rattle.numerals.specs.Decimal.{decimal_of_text, decimal_text}
use Rattle.json_values.specs.Text.{bool_text, string_text, json_text}
use Rattle.json_values.specs.declared.json.Json.{Json}
use Rattle.json_values.specs.declared.json.Json.TheVariants as json
use Rattle.json_values.specs.declared.value.Value.{Value}
use Rattle.json_values.specs.declared.value.Value.TheVariants as cell

-- a numeral whose value is a decimal is that decimal; another keeps its spelling
abbrev pub number_value : List ℕ → Option ℤ → Value
number_value s None = cell.Long s
number_value s (Some units) = cell.Num units

-- the value of a cell that holds a JSON value
abbrev pub value_of : Json → Value
value_of json.Null = cell.Null
value_of (json.Bool b) = cell.Bool b
value_of (json.Num s) = number_value s (decimal_of_text s)
value_of (json.Text s) = cell.Text s
value_of (json.List items) = cell.Tree (json.List items)
value_of (json.Object fields) = cell.Tree (json.Object fields)

-- the same variant and equal content: the same spelling of numerals, the same order of fields
abbrev mutual
  pub same_json : JsonValue → JsonValue → Bool
  same_json null null = true
  same_json (boolean a) (boolean b) = beq a b
  same_json (number s) (number t) = bytes_eq s t
  same_json (string s) (string t) = bytes_eq s t
  same_json (array xs) (array ys) = same_items xs ys
  same_json (object xs) (object ys) = same_fields xs ys
  same_json _ _ = false

  pub same_items : ItemList → ItemList → Bool
  same_items no_items no_items = true
  same_items (item v vs) (item w ws) = same_json v w && same_items vs ws
  same_items _ _ = false

  pub same_fields : FieldList → FieldList → Bool
  same_fields no_fields no_fields = true
  same_fields (field m v vs) (field n w ws) = bytes_eq m n && (same_json v w && same_fields vs ws)
  same_fields _ _ = false

abbrev pub same : Value → Value → Bool
same cell.Null cell.Null = true
same (cell.Bool a) (cell.Bool b) = beq a b
same (cell.Num m) (cell.Num n) = int_eq m n
same (cell.Long s) (cell.Long t) = bytes_eq s t
same (cell.Text s) (cell.Text t) = bytes_eq s t
same (cell.Tree a) (cell.Tree b) = same_json (json_value a) (json_value b)
same _ _ = false

-- ## Texts

-- the JSON text
abbrev pub value_text : Value → List ℕ
value_text cell.Null = codes "null"
value_text (cell.Bool b) = bool_text b
value_text (cell.Num units) = decimal_text units
value_text (cell.Long s) = s
value_text (cell.Text s) = string_text s
value_text (cell.Tree j) = json_text (json_value j)

-- nothing, a text as it stands, and all others as in JSON
abbrev pub plain_text : Value → List ℕ
plain_text cell.Null = []
plain_text (cell.Bool b) = bool_text b
plain_text (cell.Num units) = decimal_text units
plain_text (cell.Long s) = s
plain_text (cell.Text s) = s
plain_text (cell.Tree j) = json_text (json_value j)
