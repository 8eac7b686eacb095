-- A table in pieces: a piece for each value of a field, or for each row.
use Rattle.std.specs.Prelude.{ℕ, ◌+◌, List, [], ◌∷◌, map, Result, Ok, Option, Some, None}
use Rattle.json_values.specs.Table.{TableContent, RowValues}
use Rattle.table_terms.specs.Names.{Text, value_at, place_of}
use Rattle.table_rows.specs.Columns.{cells}
use Rattle.table_rows.specs.Groups.{groups_of}
use Rattle.table_terms.specs.Refusals.{unless}
use Rattle.table_rows.specs.Refusals.{refused_item}
use Rattle.table_rows.specs.Rows.{first_of}
use Rattle.table_rows.specs.declared.split.SplitItem.{SplitItem}
use Rattle.table_rows.specs.declared.fault.TableWhy.{TableWhy}

-- rows of one value, and the value that the first of them has at a place
abbrev pub piece : List RowValues → ℕ → List ℕ → SplitItem
piece rows place numbers = record { value = Some (value_at (first_of rows numbers) place); rows = numbers }

abbrev pub pieces_by : TableContent → Text → List SplitItem
pieces_by t field = map (piece t.rows (place_of t.names field)) (groups_of (map (cells t.names (field ∷ [])) t.rows))

-- a piece for each row, the first of which has number n
abbrev pub single_rows : ℕ → List RowValues → List SplitItem
single_rows n [] = []
single_rows n (row ∷ rows) = record { value = None; rows = n ∷ [] } ∷ single_rows (n + 1) rows

abbrev pub split_rows : TableContent → Option Text → Result (List SplitItem) TableWhy
split_rows t None = Ok (single_rows 0 t.rows)
split_rows t (Some field) = unless (refused_item t.names [] 0 (field ∷ [])) (Ok (pieces_by t field))
