-- The one drawing of all features that the sources of a run gave, in order, and of its boxes.
use Rattle.std.specs.Prelude.{List, [], ◌++◌, map}
use Rattle.std.specs.List.{flat_map}
use Rattle.plane_model.specs.Points.{GridPoint, Path}
use Rattle.plane_model.specs.Drawing.{Drawing, Polygon}
use Rattle.grid_base.specs.Drawn.{outline, without_repeats}
use Rattle.grid_base.specs.Grid.{Corners}
use Rattle.grid_base.specs.declared.kinds.Kind.{Kind}
use Rattle.grid_base.specs.declared.kinds.Kind.TheVariants as kinds
use Rattle.geojson_io.specs.LayerContent.{LayerContent}
use Rattle.geojson_io.specs.declared.shape.GeoShape.{GeoShape}
use Rattle.geojson_io.specs.declared.shape.GeoShape.TheVariants as shape

-- ---- paths: each ring and each line is drawn; equal neighbours count once

abbrev pub drawn_rings : List Path → Polygon
drawn_rings rings = map without_repeats rings

abbrev pub drawn_lines : List Path → List Path
drawn_lines lines = map without_repeats lines

-- ---- features

-- the polygons, the lines and the points of a shape
abbrev pub polygons_of : GeoShape → List Polygon
polygons_of (shape.Polygons polygons) = map drawn_rings polygons
polygons_of shape.Nothing = []
polygons_of (shape.Lines lines) = []
polygons_of (shape.Points points) = []

abbrev pub lines_of : GeoShape → List Path
lines_of (shape.Lines lines) = drawn_lines lines
lines_of shape.Nothing = []
lines_of (shape.Polygons polygons) = []
lines_of (shape.Points points) = []

abbrev pub points_of : GeoShape → List GridPoint
points_of (shape.Points points) = points
points_of shape.Nothing = []
points_of (shape.Polygons polygons) = []
points_of (shape.Lines lines) = []

-- the polygon features, the line features and the point features of a layer of some kind
abbrev pub polygon_features : Kind → List GeoShape → List (List Polygon)
polygon_features kinds.Polygon shapes = map polygons_of shapes
polygon_features kinds.Line shapes = []
polygon_features kinds.Point shapes = []
polygon_features kinds.Table shapes = []

abbrev pub line_features : Kind → List GeoShape → List (List Path)
line_features kinds.Polygon shapes = []
line_features kinds.Line shapes = map lines_of shapes
line_features kinds.Point shapes = []
line_features kinds.Table shapes = []

abbrev pub point_features : Kind → List GeoShape → List (List GridPoint)
point_features kinds.Polygon shapes = []
point_features kinds.Line shapes = []
point_features kinds.Point shapes = map points_of shapes
point_features kinds.Table shapes = []

-- ---- layers

abbrev pub polygons_in : List LayerContent → List (List Polygon)
polygons_in layers = flat_map (λ (layer : LayerContent). polygon_features layer.kind layer.shapes) layers

abbrev pub lines_in : List LayerContent → List (List Path)
lines_in layers = flat_map (λ (layer : LayerContent). line_features layer.kind layer.shapes) layers

abbrev pub points_in : List LayerContent → List (List GridPoint)
points_in layers = flat_map (λ (layer : LayerContent). point_features layer.kind layer.shapes) layers

abbrev pub drawn_boxes : List Corners → List Path
drawn_boxes boxes = map (λ (box : Corners). without_repeats (outline box)) boxes

abbrev pub drawing_of : List LayerContent → List Corners → Drawing
drawing_of layers boxes = record { polygons = polygons_in layers; lines = lines_in layers; points = points_in layers; boxes = drawn_boxes boxes }

-- ---- what is added to a drawing

abbrev pub with_layers : List LayerContent → Drawing → Drawing
with_layers layers d = record d { polygons = d.polygons ++ polygons_in layers; lines = d.lines ++ lines_in layers; points = d.points ++ points_in layers }
