-- Tables: names of columns, and rows of values. A table of named values, as the features of a file have them.
use Rattle.std.specs.Prelude.{ℕ, ◌≡◌, List, [], ◌∷◌, ◌++◌, map, length, fold, take, slice_get, Option, Some, None, false, unwrap_or, if◌then◌else◌}
use Rattle.std.specs.List.{IsDistinct, list_any}
use Rattle.std.specs.Str.{bytes_eq}
use Rattle.json_values.specs.declared.value.Value.{Value}
use Rattle.json_values.specs.declared.value.Value.TheVariants as cell

-- names and values, in order
abbrev pub NamedValues : Type 0
NamedValues = List (List ℕ × Value)

-- the values of a row, in the order of the columns
abbrev pub RowValues : Type 0
RowValues = List Value

-- a new name goes last; a name that is there takes its new value in its old place
abbrev pub put_value : NamedValues → List ℕ → Value → NamedValues
put_value [] name v = (name, v) ∷ []
put_value (f ∷ fs) name v = if bytes_eq name f.0 then (f.0, v) ∷ fs else f ∷ put_value fs name v

-- the value with this name
abbrev pub named_value : List ℕ → NamedValues → Option Value
named_value name [] = None
named_value name (f ∷ fs) = if bytes_eq name f.0 then Some f.1 else named_value name fs

-- no field has this name
abbrev pub IsNewName : List ℕ → NamedValues → Type 0
IsNewName name fs = list_any (bytes_eq name) (map (λ f. f.0) fs) ≡ false

-- the first field with this name has the number i
abbrev pub IsPlaceOf : List ℕ → NamedValues → ℕ → Type 0
IsPlaceOf name fs i = (slice_get (map (λ f. f.0) fs) i ≡ Some name) × IsNewName name (take i fs)

abbrev pub value_or_null : List ℕ → NamedValues → Value
value_or_null name fs = unwrap_or (named_value name fs) cell.Null

-- each row is as long as the names
abbrev pub AreRows : ℕ → List RowValues → Type 0
AreRows n [] = Unit {0}
AreRows n (row ∷ rows) = (length row ≡ n) × AreRows n rows

abbrev pub AreDistinctNames : List (List ℕ) → Type 0
AreDistinctNames names = IsDistinct bytes_eq names

-- the names are distinct, and each row is as long as the names
pub record TableContent : Type 0 where
  pub names : List (List ℕ)
  pub rows : List RowValues

-- ## A table of named values

-- a name that is new goes last
abbrev pub add_name : List (List ℕ) → List ℕ → List (List ℕ)
add_name names name = if list_any (bytes_eq name) names then names else names ++ name ∷ []

abbrev pub add_names : List (List ℕ) → List (List ℕ) → List (List ℕ)
add_names names more = fold add_name names more

-- the names in order of first appearance
abbrev pub names_of : List NamedValues → List (List ℕ)
names_of rows = fold (λ names fs. add_names names (map (λ f. f.0) fs)) [] rows

-- the values of these names; one that is missing is Null
abbrev pub row_of : List (List ℕ) → NamedValues → RowValues
row_of names fs = map (λ name. value_or_null name fs) names

abbrev pub table_of : List NamedValues → TableContent
table_of fields = let names = names_of fields in record { names = names; rows = map (row_of names) fields }
