-- The features of a layer, by their numbers from 0.
use Rattle.std.specs.Prelude.{◌≡◌, ℕ, List, map, length}
use Rattle.std.specs.List.{range_with_len}
use Rattle.table_rows.specs.Rows.{take_rows}
use Rattle.run_plane.specs.Shapes.{shape_at, with_geometry}
use Rattle.run_plane.specs.declared.layer.Layer.{Layer}
use Rattle.run_plane.specs.declared.layer.Shape.{Shape}

abbrev pub all_numbers : Layer → List ℕ
all_numbers layer = range_with_len 0 (length layer.table.rows)

-- a layer of the same name and kind, with the rows of these numbers and other shapes
pub record HasRows (layer : Layer) (numbers : List ℕ) (parts : List Shape) (made : Layer) : Type 0 where
  pub name : made.name ≡ layer.name
  pub kind : made.kind ≡ layer.kind
  pub table : made.table ≡ take_rows layer.table numbers
  pub shapes : made.shapes.items ≡ parts

-- the features with these numbers
abbrev pub TakesFeatures : Layer → List ℕ → Layer → Type 0
TakesFeatures layer numbers made = HasRows layer numbers (map (shape_at layer.shapes.items) numbers) made

-- the features with other shapes, without those that have no geometry then
abbrev pub LeavesOut : Layer → List Shape → Layer → Type 0
LeavesOut layer parts made = HasRows layer (with_geometry parts (all_numbers layer)) (map (shape_at parts) (with_geometry parts (all_numbers layer))) made
