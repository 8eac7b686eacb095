-- The TopoJSON text of layers, after TopoJSON 1.0, section 2: objects by their names, and the arcs that they use,
-- numbered anew.
use Rattle.std.specs.Prelude.{ℕ, Bool, pos, ◌-ℤ◌, List, [], ◌∷◌, ◌++◌, map, zip, length, codes, slice_index_or}
use Rattle.plane_model.specs.Points.{GridPoint, Path}
use Rattle.plane_model.specs.Arcs.{SignedArc, index_of}
use Rattle.json_values.specs.Text.{string_text}
use Rattle.json_values.specs.Table.{RowValues}
use Rattle.geojson_io.specs.Texts.{Text, separated, list_text, grid_text, point_text, key_text, properties_text}
use Rattle.topo_io.specs.ArcLayerContent.{ArcLayerContent}
use Rattle.topo_io.specs.Arcs.{is_named, marks_before, numbers_of_marks}
use Rattle.topo_io.specs.declared.arc_layer.ArcShape.{ArcShape}
use Rattle.topo_io.specs.declared.arc_layer.ArcShape.TheVariants.{Nothing, Polygons, Lines, Points}

-- an arc by its new number
abbrev pub renamed : List ℕ → SignedArc → SignedArc
renamed numbers a = record { arc = slice_index_or numbers a.arc 0; is_reversed = a.is_reversed }

-- ## Geometries

abbrev pub index_text : List ℕ → SignedArc → Text
index_text numbers a = grid_text 0 (index_of (renamed numbers a))

abbrev pub indexes_text : List ℕ → List SignedArc → Text
indexes_text numbers path = list_text (index_text numbers) path

abbrev pub rings_text : List ℕ → List (List SignedArc) → Text
rings_text numbers rings = list_text (indexes_text numbers) rings

-- what stands before the arcs or the coordinates
abbrev pub type_text : Text → Text → Text
type_text type member = codes "{\"type\":\"" ++ (type ++ (codes "\",\"" ++ (member ++ codes "\":")))

abbrev pub null_text : Text
null_text = codes "{\"type\":null"

-- one item by its type, more by the type of many
abbrev pub one_or_many : {A : Type 0} → Text → Text → Text → (A → Text) → List A → Text
one_or_many one many member show [] = null_text
one_or_many one many member show (x ∷ []) = type_text one member ++ show x
one_or_many one many member show (x ∷ y ∷ rest) = type_text many member ++ list_text show (x ∷ y ∷ rest)

-- a geometry without its end
abbrev pub shape_text : List ℕ → ArcShape → Text
shape_text numbers Nothing = null_text
shape_text numbers (Polygons ps) = one_or_many (codes "Polygon") (codes "MultiPolygon") (codes "arcs") (rings_text numbers) ps
shape_text numbers (Lines ls) = one_or_many (codes "LineString") (codes "MultiLineString") (codes "arcs") (indexes_text numbers) ls
shape_text numbers (Points ps) = one_or_many (codes "Point") (codes "MultiPoint") (codes "coordinates") (point_text 0) ps

-- the properties, where there is a column
abbrev pub row_member : List Text → RowValues → Text
row_member [] row = []
row_member (key ∷ keys) row = codes ",\"properties\":" ++ properties_text (key ∷ keys) row

abbrev pub geometry_text : List ℕ → List Text → RowValues × ArcShape → Text
geometry_text numbers keys f = shape_text numbers f.1 ++ (row_member keys f.0 ++ 125 ∷ [])

abbrev pub geometries_text : List ℕ → List Text → List RowValues → List ArcShape → Text
geometries_text numbers keys rows shapes = separated (44 ∷ []) (map (geometry_text numbers keys) (zip rows shapes))

-- ## Objects and arcs

abbrev pub object_text : List ℕ → ArcLayerContent → Text
object_text numbers l =
    string_text l.name ++ (codes ":{\"type\":\"GeometryCollection\",\"geometries\":[" ++ (geometries_text numbers (map key_text l.table.names) l.table.rows l.shapes ++ codes "]}"))

-- the first position by itself, each other as its difference from the one before
abbrev pub differences : GridPoint → Path → Path
differences before [] = []
differences before (p ∷ rest) = record { x = p.x -ℤ before.x; y = p.y -ℤ before.y } ∷ differences p rest

abbrev pub arc_text : Path → Text
arc_text arc = list_text (point_text 0) (differences (record { x = pos 0; y = pos 0 }) arc)

-- the arcs with these numbers
abbrev pub numbered_arc_text : List Path → ℕ → Text
numbered_arc_text arcs n = arc_text (slice_index_or arcs n [])

abbrev pub arcs_text : List ℕ → List Path → Text
arcs_text used arcs = separated (44 ∷ []) (map (numbered_arc_text arcs) used)

-- the scale is one on the grid
abbrev pub head_text : ℕ → Text
head_text places =
    codes "{\"type\":\"Topology\",\"transform\":{\"scale\":[" ++ (grid_text places (pos 1) ++ (44 ∷ (grid_text places (pos 1) ++ codes "],\"translate\":[0,0]},\"objects\":{")))

-- objects and arcs, where these arcs are used
abbrev pub body_text : List Bool → List Path → List ArcLayerContent → Text
body_text is_used arcs layers =
    separated (44 ∷ []) (map (object_text (marks_before 0 is_used)) layers) ++ (codes "},\"arcs\":[" ++ (arcs_text (numbers_of_marks 0 is_used) arcs ++ codes "]}\n"))

abbrev pub topojson_text : ℕ → List Path → List ArcLayerContent → Text
topojson_text places arcs layers = head_text places ++ body_text (is_named (length arcs) layers) arcs layers
