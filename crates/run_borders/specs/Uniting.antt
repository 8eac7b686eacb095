-- The union of layers of polygons.
use Rattle.std.specs.Prelude.{◌≡◌, ℕ, List, length, map, slice_get, Some}
use Rattle.grid_base.specs.declared.kinds.Kind.TheVariants as kinds
use Rattle.json_values.specs.Table.{TableContent}
use Rattle.union_ops.specs.Union.{IsUnion}
use Rattle.union_ops.specs.UnionTable.{IsUnionTable}
use Rattle.union_ops.specs.declared.union_lists.UnionItem.{UnionItem}
use Rattle.run_state.specs.FaceSets.{sets_in}
use Rattle.run_plane.specs.declared.layer.Layer.{Layer}
use Rattle.run_plane.specs.declared.layer.Shape.{Shape}
use Rattle.run_plane.specs.declared.layer.Shape.TheVariants as shape
use Rattle.run_plane.specs.declared.plane.Plane.{Plane}

-- of each layer the sets of faces of its features, and its table
abbrev pub layer_sets : List Layer → List (List (List ℕ))
layer_sets layers = map (λ (layer : Layer). sets_in layer.shapes.items) layers

abbrev pub layer_tables : List Layer → List TableContent
layer_tables layers = map (λ (layer : Layer). layer.table) layers

abbrev pub item_shape : UnionItem → Shape
item_shape item = shape.Faces item.set

-- a feature for each item of the union of the layers' sets, with the columns of all layers, in a layer with the name of
-- the first
pub record IsUnited (plane : Plane) (layers : List Layer) (made : Layer) : Type 0 where
  pub first : Layer
  pub begins : slice_get layers 0 ≡ Some first
  pub name : made.name ≡ first.name
  pub kind : made.kind ≡ kinds.Polygon
  pub items : List UnionItem
  pub are : IsUnion plane.faces (layer_sets layers) items
  pub table : IsUnionTable (layer_tables layers) items made.table
  pub shapes : made.shapes.items ≡ map item_shape items

-- ---- on the way

abbrev pub row_counts : List TableContent → List ℕ
row_counts tables = map (λ (table : TableContent). length table.rows) tables

abbrev pub set_counts : List (List (List ℕ)) → List ℕ
set_counts sets = map (λ (own : List (List ℕ)). length own) sets

-- the tables and the sets of these layers, a row for each set
pub record AreGathered (layers : List Layer) (tables : List TableContent) (sets : List (List (List ℕ))) : Type 0 where
  pub of_tables : tables ≡ layer_tables layers
  pub of_sets : sets ≡ layer_sets layers
  pub each : row_counts tables ≡ set_counts sets
