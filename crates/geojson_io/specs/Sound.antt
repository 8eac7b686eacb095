-- What is read is fit to be drawn: no path is empty, and rings end where they start.
use Rattle.std.specs.Prelude.{◌≢◌, [], All}
use Rattle.plane_model.specs.Points.{Path}
use Rattle.plane_model.specs.Joined.{IsClosed}
use Rattle.geojson_io.specs.LayerContent.{LayerContent}
use Rattle.geojson_io.specs.declared.shape.GeoShape.{GeoShape}
use Rattle.geojson_io.specs.declared.shape.GeoShape.TheVariants.{Nothing, Polygons, Lines, Points}
use Rattle.geojson_io.specs.declared.reading.features.Feature.{Feature}

abbrev pub HasPoints : Path → Type 0
HasPoints path = path ≢ []

abbrev pub IsRing : Path → Type 0
IsRing path = HasPoints path × IsClosed path

abbrev pub ShapeIsSound : GeoShape → Type 0
ShapeIsSound Nothing = Unit {0}
ShapeIsSound (Polygons ps) = All (All IsRing) ps
ShapeIsSound (Lines ls) = All HasPoints ls
ShapeIsSound (Points ps) = Unit {0}

abbrev pub FeatureIsSound : Feature → Type 0
FeatureIsSound f = ShapeIsSound f.shape

abbrev pub LayerIsSound : LayerContent → Type 0
LayerIsSound l = All ShapeIsSound l.shapes
