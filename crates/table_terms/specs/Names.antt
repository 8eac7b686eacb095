-- Names of columns, as lists of UTF-8 bytes, and the values that a row has under them.
use Rattle.std.specs.Prelude.{ℕ, Bool, List, slice_index_or}
use Rattle.std.specs.List.{list_any, position_or_len}
use Rattle.std.specs.Str.{bytes_eq}
use Rattle.json_values.specs.Table.{RowValues}
use Rattle.json_values.specs.declared.value.Value.{Value}
use Rattle.json_values.specs.declared.value.Value.TheVariants as is

abbrev pub Text : Type 0
Text = List ℕ

abbrev pub has_name : List Text → Text → Bool
has_name names name = list_any (bytes_eq name) names

-- the place of a name among names, or their number
abbrev pub place_of : List Text → Text → ℕ
place_of names name = position_or_len (bytes_eq name) names

-- the value at a place; past the end null
abbrev pub value_at : RowValues → ℕ → Value
value_at row place = slice_index_or row place is.Null

-- the value of a row in a column
abbrev pub cell : List Text → Text → RowValues → Value
cell names name row = value_at row (place_of names name)
