-- The values by which rows are told apart.
use Rattle.std.specs.Prelude.{ℕ, Bool, List, [], ◌∷◌}
use Rattle.std.specs.Cmp.Lexicographic.{pointwise}
use Rattle.std.specs.Hash as fed
use Rattle.std.specs.Hash.{HashWrites}
use Rattle.json_values.specs.Seen.{json_value}
use Rattle.json_values.specs.Table.{RowValues}
use Rattle.json_values.specs.Text.{json_text}
use Rattle.json_values.specs.Value.{same}
use Rattle.json_values.specs.declared.value.Value.{Value}
use Rattle.json_values.specs.declared.value.Value.TheVariants as cell

-- the same values, one by one
abbrev pub same_values : RowValues → RowValues → Bool
same_values = pointwise same

-- the JSON text of an array or an object; none of the other values
abbrev pub tree_text : Value → List ℕ
tree_text (cell.Tree j) = json_text (json_value j)
tree_text _ = []

-- what a value feeds a hasher: null a number that no truth value feeds, an array or an object its JSON text
abbrev pub key_writes : Value → HashWrites
key_writes cell.Null = fed.u8 2
key_writes (cell.Bool b) = fed.bool b
key_writes (cell.Num units) = fed.i128 units
key_writes (cell.Long s) = fed.str s
key_writes (cell.Text s) = fed.str s
key_writes (cell.Tree j) = tree_text (cell.Tree j) ∷ []
