-- What a picture of a layer must show, and the text of an output.
use Rattle.std.specs.Prelude.{◌≡◌, ℕ, MatchBool, List, [], ◌∷◌, map}
use Rattle.std.specs.List.{AllZip}
use Rattle.plane_model.specs.Points.{Path}
use Rattle.plane_model.specs.Drawing.{Polygon}
use Rattle.plane_model.specs.Arcs.{signed_arcs}
use Rattle.geojson_io.specs.Geometries.{some_lines, some_points}
use Rattle.geojson_io.specs.LayerContent.{LayerContent}
use Rattle.geojson_io.specs.Texts.{geojson_text}
use Rattle.geojson_io.specs.declared.shape.GeoShape.{GeoShape}
use Rattle.geojson_io.specs.declared.shape.GeoShape.TheVariants as shape
use Rattle.topo_io.specs.ArcLayerContent.{ArcLayerContent}
use Rattle.topo_io.specs.Texts.{topojson_text}
use Rattle.topo_io.specs.declared.arc_layer.ArcShape.{ArcShape}
use Rattle.topo_io.specs.declared.arc_layer.ArcShape.TheVariants as arcs
use Rattle.csv_io.specs.CsvText.{csv_text}
use Rattle.table_terms.specs.Names.{Text}
use Rattle.job_terms.specs.declared.job.OutForm.{OutForm}
use Rattle.job_terms.specs.declared.job.OutForm.TheVariants as form
use Rattle.region_model.specs.Region.{Region}
use Rattle.region_model.specs.Answers.{Plane, Answers, is_empty}
use Rattle.region_model.specs.Printed.{Fits}
use Rattle.chain_model.specs.State.{StateLayer, Shape, region, paths, points, no_shape}
use Rattle.chain_model.specs.Steps.{Written}

-- ---- pictures: layers whose shapes are rings, paths and points

-- a polygon feature is none where its region is empty, and else its polygons fit the region
abbrev pub ShowsRegion : Plane → Answers → Region → GeoShape → Type 0
ShowsRegion P A r s = MatchBool (is_empty P A r) (s ≡ shape.Nothing) ((polygons : List Polygon) × (s ≡ shape.Polygons polygons) × Fits P A r polygons)

abbrev pub ShowsShape : Plane → Answers → Shape → GeoShape → Type 0
ShowsShape P A (region r) s = ShowsRegion P A r s
ShowsShape P A (paths ps) s = s ≡ some_lines ps
ShowsShape P A (points ps) s = s ≡ some_points ps
ShowsShape P A no_shape s = s ≡ shape.Nothing

-- the picture has the layer's name, columns, rows, paths and points, and polygons that fit its regions
pub record Shows (P : Plane) (A : Answers) (l : StateLayer) (picture : LayerContent) : Type 0 where
  pub name : picture.name ≡ l.name
  pub kind : picture.kind ≡ l.kind
  pub table : picture.table ≡ l.table
  pub shapes : AllZip (ShowsShape P A) l.shapes picture.shapes

-- ---- texts

-- rings and paths of links, by the arcs that they go along
abbrev pub shape_in_arcs : List Path → GeoShape → ArcShape
shape_in_arcs table shape.Nothing = arcs.Nothing
shape_in_arcs table (shape.Polygons polygons) = arcs.Polygons (map (map (signed_arcs table)) polygons)
shape_in_arcs table (shape.Lines lines) = arcs.Lines (map (signed_arcs table) lines)
shape_in_arcs table (shape.Points ps) = arcs.Points ps

abbrev pub in_arcs : List Path → LayerContent → ArcLayerContent
in_arcs table picture = record { name = picture.name; kind = picture.kind; table = picture.table; shapes = map (shape_in_arcs table) picture.shapes }

-- the text of pictures: of one as GeoJSON (RFC 7946) or comma-separated text (RFC 4180), of all as a topology (TopoJSON
-- 1.0)
abbrev pub text_in : OutForm → ℕ → List Path → List LayerContent → Text
text_in form.Topo places table pictures = topojson_text places table (map (in_arcs table) pictures)
text_in form.Geo places table [] = []
text_in form.Geo places table (picture ∷ rest) = geojson_text places picture
text_in form.Csv places table [] = []
text_in form.Csv places table (picture ∷ rest) = csv_text picture.table

-- a text of an output: that of one picture for each of its layers, in order
pub record IsTextOf (P : Plane) (A : Answers) (places : ℕ) (w : Written) (text : Text) : Type 0 where
  pub pictures : List LayerContent
  pub shown : AllZip (Shows P A) w.layers pictures
  pub is : text ≡ text_in w.form places P.arcs pictures
