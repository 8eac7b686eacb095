-- The drawing of all sources and boxes, and the state with which the commands begin.
use Rattle.std.specs.Prelude.{ℕ, Bool, true, false, List, [], ◌∷◌, ◌++◌, map, filter, zip, length, slice_index_or, nat_lt, if◌then◌else◌}
use Rattle.std.specs.List.{flat_map, range_with_len, enumerate_from}
use Rattle.plane_model.specs.Points.{GridPoint, Path}
use Rattle.plane_model.specs.Drawing.{Drawing, Polygon}
use Rattle.grid_base.specs.Drawn.{outline, without_repeats}
use Rattle.grid_base.specs.Grid.{Corners}
use Rattle.grid_base.specs.declared.kinds.Kind.{Kind}
use Rattle.grid_base.specs.declared.kinds.Kind.TheVariants as kind
use Rattle.geojson_io.specs.LayerContent.{LayerContent}
use Rattle.geojson_io.specs.Layers.{same_kind}
use Rattle.geojson_io.specs.declared.shape.GeoShape.{GeoShape}
use Rattle.geojson_io.specs.declared.shape.GeoShape.TheVariants as shape
use Rattle.job_terms.specs.declared.job.Owner.{Owner}
use Rattle.job_terms.specs.declared.job.Owner.TheVariants as owner
use Rattle.job_terms.specs.declared.job.SourceWord.{SourceWord}
use Rattle.region_model.specs.Region.{feature}
use Rattle.region_model.specs.Answers.{Plane}
use Rattle.chain_model.specs.State.{State, StateLayer, Shape, region, paths, points, no_shape}

-- ---- the drawing, in whose paths equal neighbours count once

abbrev pub polygons_of : GeoShape → List Polygon
polygons_of (shape.Polygons polygons) = map (map without_repeats) polygons
polygons_of _ = []

abbrev pub lines_of : GeoShape → List Path
lines_of (shape.Lines lines) = map without_repeats lines
lines_of _ = []

abbrev pub points_of : GeoShape → List GridPoint
points_of (shape.Points ps) = ps
points_of _ = []

-- the shapes of the layers of one kind, in order
abbrev pub shapes_of : Kind → List LayerContent → List GeoShape
shapes_of k ls = flat_map (λ (l : LayerContent). if same_kind l.kind k then l.shapes else []) ls

-- a feature for each shape, and a box for each rectangle
abbrev pub drawing_of : List LayerContent → List Corners → Drawing
drawing_of ls boxes = record {
  polygons = map polygons_of (shapes_of kind.Polygon ls);
  lines = map lines_of (shapes_of kind.Line ls);
  points = map points_of (shapes_of kind.Point ls);
  boxes = map (λ (box : Corners). without_repeats (outline box)) boxes;
}

-- ---- the layers as the commands find them

abbrev pub has_links : Path → Bool
has_links path = nat_lt 1 (length path)

-- the shape of the feature that is number n of its kind: a line is its snapped paths, but those without links
abbrev pub first_shape : Plane → Kind → ℕ → GeoShape → Shape
first_shape P kind.Polygon n s = region (feature n)
first_shape P kind.Line n s = paths (filter has_links (slice_index_or P.drawing.lines n []))
first_shape P kind.Point n s = points (points_of s)
first_shape P kind.Table n s = no_shape

-- how many features of a kind some layers have
abbrev pub count_of : Kind → List LayerContent → ℕ
count_of k ls = length (shapes_of k ls)

-- a layer after others of the drawing
abbrev pub first_layer : Plane → List LayerContent → LayerContent → StateLayer
first_layer P before l = record {
  name = l.name;
  kind = l.kind;
  table = l.table;
  shapes = map (λ (s : ℕ × GeoShape). first_shape P l.kind s.0 s.1) (enumerate_from (count_of l.kind before) l.shapes);
}

abbrev pub first_layers : Plane → List LayerContent → List LayerContent → List StateLayer
first_layers P before [] = []
first_layers P before (l ∷ ls) = first_layer P before l ∷ first_layers P (before ++ l ∷ []) ls

-- source by source
abbrev pub first_sources : Plane → List LayerContent → List (List LayerContent) → List (List StateLayer)
first_sources P before [] = []
first_sources P before (ls ∷ rest) = first_layers P before ls ∷ first_sources P (before ++ ls) rest

abbrev pub is_import : Owner → Bool
is_import owner.Import = true
is_import (owner.Command n) = false

-- the layers of the import files, in order
abbrev pub import_layers : List SourceWord → List (List StateLayer) → List StateLayer
import_layers words sources = flat_map (λ (s : SourceWord × List StateLayer). if is_import s.0.owner then s.1 else []) (zip words sources)

-- the layers of each file that was read for a command, and none of one for the import
abbrev pub command_layers : List SourceWord → List (List StateLayer) → List (List StateLayer)
command_layers words sources = map (λ (s : SourceWord × List StateLayer). if is_import s.0.owner then [] else s.1) (zip words sources)

-- all of them are the default target
abbrev pub first_state : List StateLayer → State
first_state ls = record { layers = ls; target = range_with_len 0 (length ls) }
