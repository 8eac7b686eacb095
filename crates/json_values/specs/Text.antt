-- The text of a JSON value (RFC 8259, without white space).
use Rattle.std.specs.Prelude.{ℕ, ◌/◌, ◌%◌, ◌+◌, Bool, true, false, ◌||◌, ◌==◌, nat_lt, nat_le, not, ◌&&◌, List, [], ◌∷◌, ◌++◌, codes, Some, None, if◌then◌else◌}
use Rattle.std.specs.List.{flat_map}
use Rattle.json_values.specs.Json.{JsonValue, ItemList, FieldList, null, boolean, number, string, array, object, no_items, item, no_fields, field}
use Rattle.numerals.specs.Decimal.{decimal_of_text, decimal_text}

abbrev pub hex_digit : ℕ → ℕ
hex_digit n = if nat_lt n 10 then 48 + n else 87 + n

-- a byte of a string
abbrev pub escaped : ℕ → List ℕ
escaped b =
    if (b == 34) || (b == 92) then 92 ∷ b ∷ []
    else (if b == 8 then codes "\\b"
    else (if b == 9 then codes "\\t"
    else (if b == 10 then codes "\\n"
    else (if b == 12 then codes "\\f"
    else (if b == 13 then codes "\\r"
    else (if nat_lt b 32 then codes "\\u00" ++ hex_digit (b / 16) ∷ hex_digit (b % 16) ∷ []
    else b ∷ []))))))

abbrev pub string_text : List ℕ → List ℕ
string_text s = 34 ∷ (flat_map escaped s ++ 34 ∷ [])

-- a numeral by its decimal, or as it is spelled
abbrev pub number_text : List ℕ → List ℕ
number_text s = elim (decimal_of_text s) [ None ↦ s | Some units ↦ decimal_text units ]

abbrev pub bool_text : Bool → List ℕ
bool_text true = codes "true"
bool_text false = codes "false"

-- all but the first have a comma before them
abbrev pub after_comma : Bool → List ℕ → List ℕ
after_comma true s = s
after_comma false s = 44 ∷ s

abbrev mutual
  pub json_text : JsonValue → List ℕ
  json_text null = codes "null"
  json_text (boolean b) = bool_text b
  json_text (number s) = number_text s
  json_text (string s) = string_text s
  json_text (array vs) = 91 ∷ (items_text true vs ++ 93 ∷ [])
  json_text (object fs) = 123 ∷ (fields_text true fs ++ 125 ∷ [])

  pub items_text : Bool → ItemList → List ℕ
  items_text first no_items = []
  items_text first (item v vs) = after_comma first (json_text v) ++ items_text false vs

  pub fields_text : Bool → FieldList → List ℕ
  fields_text first no_fields = []
  fields_text first (field name v fs) = after_comma first (string_text name ++ 58 ∷ json_text v) ++ fields_text false fs

-- a byte that stands as it is
abbrev pub is_plain : ℕ → Bool
is_plain b = nat_le 32 b && (not (b == 34) && not (b == 92))
