-- The items of an array and the fields of an object as lists.
use Rattle.std.specs.Prelude.{ℕ, zero, suc, List, [], ◌∷◌, map, Option, Some, None, true, false}
use Rattle.std.specs.List.{IsDistinct}
use Rattle.std.specs.Str.{bytes_eq}
use Rattle.json_values.specs.Json.{JsonValue, ItemList, FieldList, no_items, item, no_fields, field}

abbrev pub items_list : ItemList → List JsonValue
items_list no_items = []
items_list (item v vs) = v ∷ items_list vs

abbrev pub get_item : ℕ → ItemList → Option JsonValue
get_item n no_items = None
get_item zero (item v vs) = Some v
get_item (suc n) (item v vs) = get_item n vs

abbrev pub fields_list : FieldList → List (List ℕ × JsonValue)
fields_list no_fields = []
fields_list (field name v fs) = (name, v) ∷ fields_list fs

-- a new name goes last; a name that is there takes its new value in its old place
abbrev pub put : List (List ℕ × JsonValue) → List ℕ → JsonValue → List (List ℕ × JsonValue)
put [] name v = (name, v) ∷ []
put (f ∷ fs) name v = elim (bytes_eq f.0 name) [ true ↦ (name, v) ∷ fs | false ↦ f ∷ put fs name v ]

-- the fields fs, and then these members, one after another
abbrev pub merged : List (List ℕ × JsonValue) → List (List ℕ × JsonValue) → List (List ℕ × JsonValue)
merged fs [] = fs
merged fs (m ∷ ms) = merged (put fs m.0 m.1) ms

-- the first value with this name
abbrev pub value_named : List ℕ → List (List ℕ × JsonValue) → Option JsonValue
value_named name [] = None
value_named name (f ∷ fs) = elim (bytes_eq f.0 name) [ true ↦ Some f.1 | false ↦ value_named name fs ]

abbrev pub HaveDistinctNames : List (List ℕ × JsonValue) → Type 0
HaveDistinctNames fs = IsDistinct bytes_eq (map (λ f. f.0) fs)

abbrev pub field_names : FieldList → List (List ℕ)
field_names fs = map (λ f. f.0) (fields_list fs)
