-- Layers drawn on the grid: arcs become the points along them.
use Rattle.std.specs.Prelude.{◌≡◌, ℕ, List, [], ◌∷◌, ◌++◌, map}
use Rattle.std.specs.List.{AllZip, flat_map}
use Rattle.lists.specs.Lists.{tail}
use Rattle.plane_model.specs.Arcs.{SignedArc, points_of}
use Rattle.plane_model.specs.Points.{Path}
use Rattle.io_core.specs.Contents.{Content}
use Rattle.json_values.specs.Table.{RowValues}
use Rattle.geojson_io.specs.LayerContent.{LayerContent}
use Rattle.geojson_io.specs.Texts.{features_text, geojson_text}
use Rattle.geojson_io.specs.declared.shape.GeoShape.{GeoShape}
use Rattle.geojson_io.specs.declared.shape.GeoShape.TheVariants as geo
use Rattle.topo_io.specs.declared.arc_layer.ArcShape.{ArcShape}
use Rattle.topo_io.specs.declared.arc_layer.ArcShape.TheVariants as arcs
use Rattle.run_texts.specs.Tracing.{IsTraced}
use Rattle.run_plane.specs.declared.layer.Layer.{Layer}
use Rattle.run_plane.specs.declared.layer.Shape.{Shape}
use Rattle.run_plane.specs.declared.plane.Plane.{Plane}

-- the points of arcs that follow one another: each later arc starts where the one before it stops
abbrev pub points_along : List Path → List SignedArc → Path
points_along table [] = []
points_along table (a ∷ later) = points_of table a ++ flat_map (λ (b : SignedArc). tail (points_of table b)) later

-- the points of an arc after others, which end where it begins
abbrev pub without_shared : Path → Path → Path
without_shared [] way = way
without_shared (p ∷ before) way = tail way

-- rings, lines and points on the grid
abbrev pub on_grid : List Path → ArcShape → GeoShape
on_grid table arcs.Nothing = geo.Nothing
on_grid table (arcs.Polygons polygons) = geo.Polygons (map (map (points_along table)) polygons)
on_grid table (arcs.Lines paths) = geo.Lines (map (points_along table) paths)
on_grid table (arcs.Points points) = geo.Points points

-- a shape drawn on the grid: as arcs, and these in points
pub record IsDrawn (plane : Plane) (shape : Shape) (drawn : GeoShape) : Type 0 where
  pub traced : ArcShape
  pub traces : IsTraced plane shape traced
  pub is : drawn ≡ on_grid plane.arcs traced

-- a layer of the same name, kind and table, with the shapes in points
pub record IsPicture (plane : Plane) (layer : Layer) (picture : LayerContent) : Type 0 where
  pub name : picture.name ≡ layer.name
  pub kind : picture.kind ≡ layer.kind
  pub table : picture.table ≡ layer.table
  pub shapes : AllZip (IsDrawn plane) layer.shapes.items picture.shapes

-- the GeoJSON text of a picture of a layer
pub record IsPictureText (plane : Plane) (places : ℕ) (layer : Layer) (text : Content) : Type 0 where
  pub picture : LayerContent
  pub shows : IsPicture plane layer picture
  pub is : text ≡ geojson_text places picture

-- the text that was there, and after it a feature for each shape as it was drawn, with the row of the same number
pub record AreWritten (plane : Plane) (places : ℕ) (keys : List Content) (rows : List RowValues) (shapes : List Shape) (before text : Content) : Type 0 where
  pub drawn : List GeoShape
  pub each : AllZip (IsDrawn plane) shapes drawn
  pub is : text ≡ before ++ features_text places keys rows drawn
