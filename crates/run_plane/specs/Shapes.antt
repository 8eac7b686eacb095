-- The shapes of features, by their numbers from 0.
use Rattle.std.specs.Prelude.{ℕ, ◌==◌, Bool, true, not, List, [], filter, length, slice_index_or}
use Rattle.plane_model.specs.Points.{Path}
use Rattle.run_plane.specs.declared.layer.Shape.{Shape}
use Rattle.run_plane.specs.declared.layer.Shape.TheVariants as shape

-- a feature without geometry
abbrev pub is_empty : Shape → Bool
is_empty shape.Nothing = true
is_empty (shape.Faces set) = length set == 0
is_empty (shape.Paths paths) = length paths == 0
is_empty (shape.Points points) = length points == 0

abbrev pub shape_at : List Shape → ℕ → Shape
shape_at shapes n = slice_index_or shapes n shape.Nothing

-- those of the numbers whose shape is something
abbrev pub with_geometry : List Shape → List ℕ → List ℕ
with_geometry shapes numbers = filter (λ (n : ℕ). not (is_empty (shape_at shapes n))) numbers

-- ---- what a shape has

-- its faces
abbrev pub faces_in : Shape → List ℕ
faces_in shape.Nothing = []
faces_in (shape.Faces set) = set
faces_in (shape.Paths paths) = []
faces_in (shape.Points points) = []

-- and its points
abbrev pub points_in : Shape → Path
points_in shape.Nothing = []
points_in (shape.Faces set) = []
points_in (shape.Paths paths) = []
points_in (shape.Points points) = points
