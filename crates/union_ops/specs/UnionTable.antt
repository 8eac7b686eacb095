-- The table of a union of layers: the columns of their tables side by side.
use Rattle.std.specs.Prelude.{◌≡◌, ℕ, ◌<◌, List, map, zip, length, Option, Some, None}
use Rattle.std.specs.List.{flat_map}
use Rattle.json_values.specs.Table.{TableContent, RowValues}
use Rattle.json_values.specs.declared.value.Value.TheVariants as is
use Rattle.table_terms.specs.Names.{Text}
use Rattle.table_rows.specs.Merge.{all_names}
use Rattle.table_rows.specs.Rows.{row_at}
use Rattle.union_ops.specs.Choices.{Choice, IsChoiceFrom}
use Rattle.union_ops.specs.ColumnNames.{AreNewNames}
use Rattle.union_ops.specs.declared.union_lists.UnionItem.{UnionItem}

-- the values of the chosen row, and null for none
abbrev pub chosen_row : TableContent → Option ℕ → RowValues
chosen_row t None = map (λ (name : Text). is.Null) t.names
chosen_row t (Some n) = row_at t.rows n

-- the values that are chosen of each table, side by side
abbrev pub union_row : List TableContent → Choice → RowValues
union_row tables choice = flat_map (λ (p : TableContent × Option ℕ). chosen_row p.0 p.1) (zip tables choice)

pub record IsUnionTable (tables : List TableContent) (items : List UnionItem) (t : TableContent) : Type 0 where
  pub names : AreNewNames (all_names tables) t.names
  pub rows : t.rows ≡ map (λ (item : UnionItem). union_row tables item.choice) items

-- the item's choice is from the rows of the tables
abbrev pub IsOfTables : List TableContent → UnionItem → Type 0
IsOfTables tables item = IsChoiceFrom (map (λ (t : TableContent). length t.rows) tables) item.choice

-- ---- on the way

abbrev pub IsChosenFrom : TableContent → Option ℕ → Type 0
IsChosenFrom t None = Unit {0}
IsChosenFrom t (Some n) = n < length t.rows
