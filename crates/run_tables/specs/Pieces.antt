-- The layers into which a layer is split: one for each value of a column, or one for each feature.
use Rattle.std.specs.Prelude.{◌≡◌, ℕ, ◌++◌, codes, decimal, List, [], ◌∷◌, map, Option, Some, None, Ok}
use Rattle.std.specs.List.{AllZip, enumerate_from}
use Rattle.io_core.specs.Contents.{Content}
use Rattle.json_values.specs.Value.{plain_text}
use Rattle.json_values.specs.declared.value.Value.{Value}
use Rattle.table_rows.specs.Rows.{take_rows}
use Rattle.table_rows.specs.Splitting.{split_rows}
use Rattle.table_rows.specs.declared.split.SplitItem.{SplitItem}
use Rattle.run_plane.specs.Shapes.{shape_at}
use Rattle.run_plane.specs.declared.layer.Layer.{Layer}
use Rattle.run_tables.specs.Made.{HasTable, One}

-- a piece has the plain text of its value for a name, or else the name of its layer, a dash and its number
abbrev pub piece_name : Content → ℕ → Option Value → Content
piece_name name number (Some value) = plain_text value
piece_name name number None = name ++ (codes "-" ++ decimal number)

-- the features of one item, as the piece with this number
pub record IsPiece (layer : Layer) (numbered : ℕ × SplitItem) (made : Layer) : Type 0 where
  pub name : made.name ≡ piece_name layer.name numbered.0 numbered.1.value
  pub kind : made.kind ≡ layer.kind
  pub table : made.table ≡ take_rows layer.table numbered.1.rows
  pub shapes : made.shapes.items ≡ map (shape_at layer.shapes.items) numbered.1.rows

-- a piece for each item, numbered from 1; a layer without features is put out as it is
abbrev pub ArePieces : Layer → List SplitItem → List Layer → Type 0
ArePieces layer [] made = One (HasTable layer layer.table) made
ArePieces layer (item ∷ items) made = AllZip (IsPiece layer) (enumerate_from 1 (item ∷ items)) made

-- the items are the values of the field in order of first appearance, each with its rows, or each row by itself
pub record IsSplit (field : Option Content) (layer : Layer) (made : List Layer) : Type 0 where
  pub items : List SplitItem
  pub answers : split_rows layer.table field ≡ Ok items
  pub pieces : ArePieces layer items made
