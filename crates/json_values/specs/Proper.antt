-- Values that can be printed as JSON texts, and what such a text denotes.
use Rattle.std.specs.Prelude.{ℕ, suc, ◌≡◌, List, ◌++◌}
use Rattle.std.specs.Str.{IsUtf8}
use Rattle.json_values.specs.Json.{JsonValue, ItemList, FieldList, null, boolean, number, string, array, object, no_items, item, no_fields, field}
use Rattle.json_values.specs.Lists.{fields_list, HaveDistinctNames}
use Rattle.json_values.specs.Grammar.{JsonText}
use Rattle.numerals.specs.Numbers.{Number}
use Rattle.json_values.specs.Text.{number_text}

-- a number is one of the grammar, texts are UTF-8, names are distinct, and at most d levels nest
abbrev mutual
  pub IsProper : ℕ → JsonValue → Type 0
  IsProper d null = Unit {0}
  IsProper d (boolean b) = Unit {0}
  IsProper d (number s) = Number s
  IsProper d (string s) = IsUtf8 s
  IsProper d (array items) = (e : ℕ) × (d ≡ suc e) × AreProper e items
  IsProper d (object fields) = (e : ℕ) × (d ≡ suc e) × HaveDistinctNames (fields_list fields) × AreProperFields e fields

  pub AreProper : ℕ → ItemList → Type 0
  AreProper d no_items = Unit {0}
  AreProper d (item v vs) = IsProper d v × AreProper d vs

  pub AreProperFields : ℕ → FieldList → Type 0
  AreProperFields d no_fields = Unit {0}
  AreProperFields d (field name v fs) = IsUtf8 name × IsProper d v × AreProperFields d fs

-- the value with each number spelled as it is printed, by its value
abbrev mutual
  pub respelled : JsonValue → JsonValue
  respelled null = null
  respelled (boolean b) = boolean b
  respelled (number s) = number (number_text s)
  respelled (string s) = string s
  respelled (array items) = array (respelled_items items)
  respelled (object fields) = object (respelled_fields fields)

  pub respelled_items : ItemList → ItemList
  respelled_items no_items = no_items
  respelled_items (item v vs) = item (respelled v) (respelled_items vs)

  pub respelled_fields : FieldList → FieldList
  respelled_fields no_fields = no_fields
  respelled_fields (field name v fs) = field name (respelled v) (respelled_fields fs)

-- what was appended is a text that denotes the value, its numbers as they are printed, where the value is proper
abbrev pub AppendsText : List ℕ → List ℕ → JsonValue → Type 0
AppendsText old new v = (d : ℕ) → IsProper d v → (text : List ℕ) × (new ≡ old ++ text) × JsonText d text (respelled v)
