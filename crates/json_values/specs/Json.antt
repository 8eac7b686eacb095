-- A JSON value: what a text denotes. Texts are lists of UTF-8 bytes, and a number keeps its text.
use Rattle.std.specs.Prelude.{ℕ, suc, max, List, [], ◌∷◌, Bool}

mutual
  pub data JsonValue : Type 0 where
    null : JsonValue
    boolean : Bool → JsonValue
    number : List ℕ → JsonValue
    string : List ℕ → JsonValue
    array : ItemList → JsonValue
    object : FieldList → JsonValue

  pub data ItemList : Type 0 where
    no_items : ItemList
    item : JsonValue → ItemList → ItemList

  -- names and values, in order
  pub data FieldList : Type 0 where
    no_fields : FieldList
    field : List ℕ → JsonValue → FieldList → FieldList

-- the items of an array, and the fields of an object, from lists of them
abbrev pub items_of : List JsonValue → ItemList
items_of [] = no_items
items_of (v ∷ vs) = item v (items_of vs)

abbrev pub fields_of : List (List ℕ × JsonValue) → FieldList
fields_of [] = no_fields
fields_of (f ∷ fs) = field f.0 f.1 (fields_of fs)

-- how deep arrays and objects nest
abbrev mutual
  pub depth : JsonValue → ℕ
  depth null = 0
  depth (boolean b) = 0
  depth (number t) = 0
  depth (string t) = 0
  depth (array items) = suc (items_depth items)
  depth (object fields) = suc (fields_depth fields)

  pub items_depth : ItemList → ℕ
  items_depth no_items = 0
  items_depth (item v vs) = max (depth v) (items_depth vs)

  pub fields_depth : FieldList → ℕ
  fields_depth no_fields = 0
  fields_depth (field name v fs) = max (depth v) (fields_depth fs)
