-- Rows taken from a table.
use Rattle.std.specs.Prelude.{ℕ, List, [], ◌∷◌, map, Option, Some, None, slice_index_or, unwrap_or}
use Rattle.json_values.specs.Table.{TableContent, RowValues}
use Rattle.table_terms.specs.Names.{value_at}

abbrev pub row_at : List RowValues → ℕ → RowValues
row_at rows n = slice_index_or rows n []

-- the row with the first of these numbers, and one without values where there are none
abbrev pub first_row : List RowValues → List ℕ → Option RowValues
first_row rows [] = None
first_row rows (n ∷ ns) = Some (row_at rows n)

abbrev pub first_of : List RowValues → List ℕ → RowValues
first_of rows numbers = unwrap_or (first_row rows numbers) []

-- the rows with these numbers
abbrev pub take_rows : TableContent → List ℕ → TableContent
take_rows t ns = record { names = t.names; rows = map (row_at t.rows) ns }

-- the values at these places
abbrev pub picked : List ℕ → RowValues → RowValues
picked places row = map (value_at row) places
