-- A feature for each piece of the features of a layer.
use Rattle.std.specs.Prelude.{◌≡◌, ℕ, List, [], ◌∷◌, map, length, replicate}
use Rattle.std.specs.List.{flat_map, enumerate_from}
use Rattle.grid_base.specs.declared.kinds.Kind.{Kind}
use Rattle.grid_base.specs.declared.kinds.Kind.TheVariants as kinds
use Rattle.plane_model.specs.Points.{GridPoint}
use Rattle.plane_model.specs.Arcs.{SignedArc}
use Rattle.region_ops.specs.Exploded.{IsExploded as AreParts}
use Rattle.region_ops.specs.declared.item_lists.PartItem.{PartItem}
use Rattle.run_state.specs.FaceSets.{sets_in}
use Rattle.run_state.specs.Features.{HasRows}
use Rattle.run_plane.specs.declared.layer.Layer.{Layer}
use Rattle.run_plane.specs.declared.layer.Shape.{Shape}
use Rattle.run_plane.specs.declared.layer.Shape.TheVariants as shape
use Rattle.run_plane.specs.declared.plane.Plane.{Plane}

-- ---- polygons

abbrev pub part_shape : PartItem → Shape
part_shape item = shape.Faces item.set

-- the parts of each set, and an empty set as it is, with the numbers of their features
pub record ArePartsOf (plane : Plane) (shapes : List Shape) (numbers : List ℕ) (pieces : List Shape) : Type 0 where
  pub items : List PartItem
  pub parts : AreParts plane.faces (sets_in shapes) items
  pub numbered : numbers ≡ map (λ (item : PartItem). item.feature) items
  pub shown : pieces ≡ map part_shape items

-- ---- lines and points

abbrev pub one_path : List SignedArc → Shape
one_path path = shape.Paths (path ∷ [])

abbrev pub one_point : GridPoint → Shape
one_point p = shape.Points (p ∷ [])

-- each path by itself; or each point
abbrev pub split_paths : List (List SignedArc) → List Shape
split_paths [] = shape.Paths [] ∷ []
split_paths (path ∷ paths) = map one_path (path ∷ paths)

abbrev pub split_points : List GridPoint → List Shape
split_points [] = shape.Points [] ∷ []
split_points (p ∷ points) = map one_point (p ∷ points)

-- the pieces of a shape of lines or points; one without any stays
abbrev pub split_shape : Shape → List Shape
split_shape shape.Nothing = shape.Nothing ∷ []
split_shape (shape.Faces set) = shape.Faces set ∷ []
split_shape (shape.Paths paths) = split_paths paths
split_shape (shape.Points points) = split_points points

-- for each piece of a feature its number
abbrev pub repeated : ℕ × Shape → List ℕ
repeated numbered = replicate (length (split_shape numbered.1)) numbered.0

pub record AreSplitOf (shapes : List Shape) (numbers : List ℕ) (pieces : List Shape) : Type 0 where
  pub numbered : numbers ≡ flat_map repeated (enumerate_from 0 shapes)
  pub shown : pieces ≡ flat_map split_shape shapes

-- ---- layers

-- the pieces of the shapes of a layer of this kind in order, with the numbers of their features
abbrev pub ArePieces : Kind → Plane → List Shape → List ℕ → List Shape → Type 0
ArePieces kinds.Polygon plane shapes numbers pieces = ArePartsOf plane shapes numbers pieces
ArePieces kinds.Line plane shapes numbers pieces = AreSplitOf shapes numbers pieces
ArePieces kinds.Point plane shapes numbers pieces = AreSplitOf shapes numbers pieces
ArePieces kinds.Table plane shapes numbers pieces = AreSplitOf shapes numbers pieces

-- each piece with the row of its feature
pub record IsExploded (plane : Plane) (layer made : Layer) : Type 0 where
  pub numbers : List ℕ
  pub pieces : List Shape
  pub are : ArePieces layer.kind plane layer.shapes.items numbers pieces
  pub has : HasRows layer numbers pieces made
