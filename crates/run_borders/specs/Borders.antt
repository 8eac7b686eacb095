-- Lines along the arcs between the features of a layer of polygons, and what such an arc parts.
use Rattle.std.specs.Prelude.{◌≡◌, ℕ, ◌+◌, ◌<◌, pos, if◌then◌else◌, List, [], ◌∷◌, map, filter, length, replicate, codes, slice_index_or, Option, Some, None, IfSome, Ok}
use Rattle.io_core.specs.Contents.{Content}
use Rattle.numerals.specs.Decimal.{of_grid}
use Rattle.json_values.specs.Table.{RowValues, TableContent}
use Rattle.json_values.specs.Value.{same}
use Rattle.json_values.specs.declared.value.Value.TheVariants as cell
use Rattle.grid_base.specs.declared.kinds.Kind.TheVariants as kinds
use Rattle.line_ops.specs.Sided.{has_both, sided_among}
use Rattle.line_ops.specs.declared.sides.SidedArc.{SidedArc}
use Rattle.table_rows.specs.Columns.{keep_fields}
use Rattle.table_rows.specs.Rows.{row_at}
use Rattle.run_borders.specs.Dissolving.{path_along}
use Rattle.run_state.specs.FaceSets.{sets_in}
use Rattle.run_plane.specs.declared.layer.Layer.{Layer}
use Rattle.run_plane.specs.declared.layer.Shape.{Shape}
use Rattle.run_plane.specs.declared.layer.Shape.TheVariants as shape
use Rattle.run_plane.specs.declared.plane.Plane.{Plane}

-- a line along one arc in its direction
abbrev pub line_along : ℕ → Shape
line_along n = shape.Paths (path_along n ∷ [])

-- the arcs of the plane whose two sides have different features, ascending, with the lowest feature at each side
abbrev pub borders_of : Plane → Layer → List SidedArc
borders_of plane layer = sided_among plane.faces (sets_in layer.shapes.items) (length plane.arcs)

-- the numbers of those that have features at both sides
abbrev pub inner_arcs_of : Plane → Layer → List ℕ
inner_arcs_of plane layer = map (λ (s : SidedArc). s.arc) (filter has_both (borders_of plane layer))

-- ---- inner lines

-- a table of `count` rows without columns
abbrev pub bare_table : ℕ → TableContent
bare_table count = record { names = []; rows = replicate count [] }

-- a line for each arc with features at both sides, and different ones; without columns
pub record AreInnerLines (plane : Plane) (layer made : Layer) : Type 0 where
  pub name : made.name ≡ layer.name
  pub kind : made.kind ≡ kinds.Line
  pub table : made.table ≡ bare_table (length (inner_arcs_of plane layer))
  pub shapes : made.shapes.items ≡ map line_along (inner_arcs_of plane layer)

-- ---- types and ranks

-- the number, from 0, of the first value in which two rows differ, or how many values they have
abbrev pub first_difference : RowValues → RowValues → ℕ
first_difference [] right = 0
first_difference (a ∷ left) [] = 0
first_difference (a ∷ left) (b ∷ right) = if same a b then 1 + first_difference left right else 0

abbrev pub type_and_rank : Content → ℕ → RowValues
type_and_rank type rank = cell.Text type ∷ cell.Num (of_grid (pos rank) 0) ∷ []

-- between two rows of listed fields: the name and the number, from 1, of the first field in which they differ; where
-- they don't, `inner` and one more than the number of fields
abbrev pub row_between : List Content → RowValues → RowValues → RowValues
row_between fields left right = type_and_rank (slice_index_or fields (first_difference left right) (codes "inner")) (first_difference left right + 1)

-- by the lowest features at the two sides; `outer` and 0 where a side has none
abbrev pub row_by : TableContent → Option ℕ → Option ℕ → RowValues
row_by listed (Some left) (Some right) = row_between listed.names (row_at listed.rows left) (row_at listed.rows right)
row_by listed (Some left) None = type_and_rank (codes "outer") 0
row_by listed None right = type_and_rank (codes "outer") 0

abbrev pub ranked_row : TableContent → SidedArc → RowValues
ranked_row listed s = row_by listed s.left s.right

abbrev pub ranked_table : TableContent → List SidedArc → TableContent
ranked_table listed arcs = record { names = codes "TYPE" ∷ codes "RANK" ∷ []; rows = map (ranked_row listed) arcs }

-- the features at the sides of an arc, where there are any, have numbers below `count`
pub record IsAmong (count : ℕ) (s : SidedArc) : Type 0 where
  pub left : IfSome s.left (λ n. n < count)
  pub right : IfSome s.right (λ n. n < count)

-- ---- lines

abbrev pub border_line : SidedArc → Shape
border_line s = line_along s.arc

-- a line for each arc whose two sides have different features, with its type and rank by the listed fields
pub record AreOutlines (plane : Plane) (fields : List Content) (layer made : Layer) : Type 0 where
  pub name : made.name ≡ layer.name
  pub kind : made.kind ≡ kinds.Line
  pub listed : TableContent
  pub answers : keep_fields layer.table fields ≡ Ok listed
  pub table : made.table ≡ ranked_table listed (borders_of plane layer)
  pub shapes : made.shapes.items ≡ map border_line (borders_of plane layer)
