-- Layers whose features share no face: each shared face left to one of them, or a feature for each part of what they
-- share.
use Rattle.std.specs.Prelude.{◌≡◌, ℕ, Bool, List, [], ◌∷◌, ◌++◌, map, codes, decimal}
use Rattle.std.specs.List.{flat_map}
use Rattle.io_core.specs.Contents.{Content}
use Rattle.json_values.specs.Table.{RowValues}
use Rattle.json_values.specs.declared.value.Value.TheVariants as cell
use Rattle.grid_base.specs.declared.kinds.Kind.TheVariants as kinds
use Rattle.grid_base.specs.declared.kinds.OverlapRule.{OverlapRule}
use Rattle.region_ops.specs.Filled.{IsCleanedAndFilled}
use Rattle.region_ops.specs.Mosaic.{IsMosaic}
use Rattle.region_ops.specs.declared.item_lists.MosaicItem.{MosaicItem}
use Rattle.run_state.specs.FaceSets.{HasSets, sets_in}
use Rattle.run_plane.specs.declared.layer.Layer.{Layer}
use Rattle.run_plane.specs.declared.layer.Shape.{Shape}
use Rattle.run_plane.specs.declared.layer.Shape.TheVariants as shape
use Rattle.run_plane.specs.declared.plane.Plane.{Plane}

-- each face that several features have is left with the one that the rule ranks first, and each gap that is small
-- enough goes to one of its neighbours; features without faces go then, or stay where they may
pub record IsCleaned (rule : OverlapRule) (allow_empty : Bool) (gap : ℕ) (plane : Plane) (layer made : Layer) : Type 0 where
  pub sets : List (List ℕ)
  pub cleaned : IsCleanedAndFilled rule gap plane.faces (sets_in layer.shapes.items) sets
  pub has : HasSets allow_empty layer sets made

-- ---- a mosaic

abbrev pub after_comma : ℕ → Content
after_comma n = codes "," ++ decimal n

-- numbers in decimal, with a comma between two
abbrev pub ids_text : List ℕ → Content
ids_text [] = []
ids_text (n ∷ rest) = decimal n ++ flat_map after_comma rest

-- the one value of a piece: the numbers of its features
abbrev pub ids_row : MosaicItem → RowValues
ids_row item = cell.Text (ids_text item.ids) ∷ []

abbrev pub piece_shape : MosaicItem → Shape
piece_shape item = shape.Faces item.set

-- a feature for each piece, with the one column `ids`
pub record IsMosaicOf (plane : Plane) (layer made : Layer) : Type 0 where
  pub name : made.name ≡ layer.name
  pub kind : made.kind ≡ kinds.Polygon
  pub pieces : List MosaicItem
  pub are : IsMosaic plane.faces (sets_in layer.shapes.items) pieces
  pub table : made.table ≡ record { names = codes "ids" ∷ []; rows = map ids_row pieces }
  pub shapes : made.shapes.items ≡ map piece_shape pieces
