-- The layers that the commands of a run begin with: those of its sources, over the plane of their drawing.
use Rattle.std.specs.Prelude.{◌≡◌, ◌++◌, ℕ, ⊤, List, [], ◌∷◌, drop, length, map, slice_index_or}
use Rattle.std.specs.List.{AllZip, range_with_len}
use Rattle.plane_model.specs.Points.{Path}
use Rattle.plane_model.specs.Arcs.{SignedArc}
use Rattle.plane_model.specs.Drawing.{Drawing}
use Rattle.face_walk.specs.Holders.{list_at}
use Rattle.face_walk.specs.Places.{FaceTable}
use Rattle.grid_base.specs.declared.kinds.Kind.{Kind}
use Rattle.grid_base.specs.declared.kinds.Kind.TheVariants as kinds
use Rattle.geojson_io.specs.LayerContent.{LayerContent}
use Rattle.geojson_io.specs.declared.shape.GeoShape.{GeoShape}
use Rattle.job_terms.specs.declared.job.Owner.{Owner}
use Rattle.job_terms.specs.declared.job.Owner.TheVariants as owner
use Rattle.run_beginning.specs.Drawing.{points_of}
use Rattle.run_plane.specs.LaidOut.{IsLaidOut}
use Rattle.run_plane.specs.LineArcs.{AreLineArcs}
use Rattle.run_plane.specs.declared.layer.Layer.{Layer}
use Rattle.run_plane.specs.declared.layer.Shape.{Shape}
use Rattle.run_plane.specs.declared.layer.Shape.TheVariants as shape

-- what is left of the features of a drawing, the next ones first: the faces of its polygon features, and the snapped
-- paths of its line features
pub record Left : Type 0 where
  pub faces : List (List ℕ)
  pub lines : List (List Path)

-- how many polygon features, and how many line features, a layer of n features of some kind has
abbrev pub polygon_count : Kind → ℕ → ℕ
polygon_count kinds.Polygon n = n
polygon_count kinds.Line n = 0
polygon_count kinds.Point n = 0
polygon_count kinds.Table n = 0

abbrev pub line_count : Kind → ℕ → ℕ
line_count kinds.Polygon n = 0
line_count kinds.Line n = n
line_count kinds.Point n = 0
line_count kinds.Table n = 0

-- what is left after n features of some kind, and after those of a layer
abbrev pub left_after_many : Kind → ℕ → Left → Left
left_after_many kind n left = record { faces = drop (polygon_count kind n) left.faces; lines = drop (line_count kind n) left.lines }

abbrev pub left_after : LayerContent → Left → Left
left_after layer left = left_after_many layer.kind (length layer.shapes) left

-- ---- shapes

abbrev pub IsLineShape : List Path → List Path → Shape → Type 0
IsLineShape arcs lines (shape.Paths paths) = AreLineArcs arcs lines paths
IsLineShape arcs lines shape.Nothing = ⊥
IsLineShape arcs lines (shape.Faces set) = ⊥
IsLineShape arcs lines (shape.Points points) = ⊥

-- the shape of the k-th of the next features
abbrev pub face_shape : List (List ℕ) → ℕ → Shape
face_shape faces k = shape.Faces (list_at faces k)

abbrev pub path_shape : List (List (List SignedArc)) → ℕ → Shape
path_shape lines k = shape.Paths (slice_index_or lines k [])

abbrev pub IsLineOf : List Path → List (List Path) → ℕ → Shape → Type 0
IsLineOf arcs lines k = IsLineShape arcs (slice_index_or lines k [])

abbrev pub point_shape : GeoShape → Shape
point_shape given = shape.Points (points_of given)

abbrev pub row_shape : GeoShape → Shape
row_shape given = shape.Nothing

abbrev pub numbers_of : List GeoShape → List ℕ
numbers_of given = range_with_len 0 (length given)

-- the shapes of a layer of some kind, in order: the sets of the next polygon features, the paths of the next line
-- features as arcs, the points themselves, or nothing
abbrev pub AreShapes : List Path → Left → Kind → List GeoShape → List Shape → Type 0
AreShapes arcs left kinds.Polygon given begun = begun ≡ map (face_shape left.faces) (numbers_of given)
AreShapes arcs left kinds.Line given begun = AllZip (IsLineOf arcs left.lines) (numbers_of given) begun
AreShapes arcs left kinds.Point given begun = begun ≡ map point_shape given
AreShapes arcs left kinds.Table given begun = begun ≡ map row_shape given

-- ---- layers

pub record IsBegunLayer (arcs : List Path) (left : Left) (given : LayerContent) (begun : Layer) : Type 0 where
  pub name : begun.name ≡ given.name
  pub kind : begun.kind ≡ given.kind
  pub table : begun.table ≡ given.table
  pub shapes : AreShapes arcs left given.kind given.shapes begun.shapes.items

-- each layer after those before it
abbrev pub AreBegun : List Path → Left → List LayerContent → List Layer → Type 0
AreBegun arcs left [] [] = ⊤
AreBegun arcs left [] (layer ∷ begun) = ⊥
AreBegun arcs left (layer ∷ given) [] = ⊥
AreBegun arcs left (layer ∷ given) (first ∷ begun) = IsBegunLayer arcs left layer first × AreBegun arcs (left_after layer left) given begun

abbrev pub left_after_all : List LayerContent → Left → Left
left_after_all [] left = left
left_after_all (layer ∷ layers) left = left_after_all layers (left_after layer left)

-- ---- sources

-- the layers of each source after those of the sources before it
abbrev pub AreBegunOfEach : List Path → Left → List (List LayerContent) → List (List Layer) → Type 0
AreBegunOfEach arcs left [] [] = ⊤
AreBegunOfEach arcs left [] (layers ∷ begun) = ⊥
AreBegunOfEach arcs left (layers ∷ given) [] = ⊥
AreBegunOfEach arcs left (layers ∷ given) (first ∷ begun) = AreBegun arcs left layers first × AreBegunOfEach arcs (left_after_all layers left) given begun

-- the layers of a source that was read for the import, or for a command
abbrev pub of_import : Owner → List Layer → List Layer
of_import owner.Import layers = layers
of_import (owner.Command n) layers = []

abbrev pub of_command : Owner → List Layer → List Layer
of_command owner.Import layers = []
of_command (owner.Command n) layers = layers

-- the layers of the import, source by source
abbrev pub imported : List Owner → List (List Layer) → List Layer
imported [] begun = []
imported (o ∷ owners) [] = []
imported (o ∷ owners) (layers ∷ begun) = of_import o layers ++ imported owners begun

-- the layers of each source that was read for a command, and none of one for the import
abbrev pub owned : List Owner → List (List Layer) → List (List Layer)
owned [] begun = []
owned (o ∷ owners) [] = []
owned (o ∷ owners) (layers ∷ begun) = of_command o layers ∷ owned owners begun

-- what the sources, read for these owners, begin as: the layers of the import, and those of each source for a command
pub record AreSourcesBegun (arcs : List Path) (left : Left) (owners : List Owner) (given : List (List LayerContent)) (layers : List Layer) (sources : List (List Layer)) : Type 0 where
  pub begun : List (List Layer)
  pub each : AreBegunOfEach arcs left given begun
  pub of_imports : layers ≡ imported owners begun
  pub of_commands : sources ≡ owned owners begun

-- all this over the snapped drawing s of the sources, laid out
pub record BeginsOver (s : Drawing) (owners : List Owner) (given : List (List LayerContent)) (arcs : List Path) (faces : FaceTable) (boxes : List (List ℕ)) (layers : List Layer) (sources : List (List Layer)) : Type 0 where
  pub features : List (List ℕ)
  pub laid : IsLaidOut s arcs faces boxes features
  pub begun : AreSourcesBegun arcs (record { faces = features; lines = s.lines }) owners given layers sources
