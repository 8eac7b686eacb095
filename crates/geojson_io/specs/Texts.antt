-- The GeoJSON text of a layer, after RFC 7946: features in order, each on a line of its own.
use Rattle.std.specs.Prelude.{ℕ, ◌==◌, ℤ, List, [], ◌∷◌, ◌++◌, map, zip, codes, if◌then◌else◌}
use Rattle.plane_model.specs.Points.{GridPoint, Path}
use Rattle.plane_model.specs.Drawing.{Polygon}
use Rattle.numerals.specs.Decimal.{of_grid, decimal_text}
use Rattle.json_values.specs.Text.{string_text}
use Rattle.json_values.specs.Value.{value_text}
use Rattle.json_values.specs.Table.{RowValues}
use Rattle.json_values.specs.declared.value.Value.{Value}
use Rattle.geojson_io.specs.LayerContent.{LayerContent}
use Rattle.geojson_io.specs.declared.shape.GeoShape.{GeoShape}
use Rattle.geojson_io.specs.declared.shape.GeoShape.TheVariants.{Nothing, Polygons, Lines, Points}

abbrev pub Text : Type 0
Text = List ℕ

-- these texts with c between each two
abbrev pub separated : Text → List Text → Text
separated c [] = []
separated c (s ∷ []) = s
separated c (s ∷ t ∷ rest) = s ++ (c ++ separated c (t ∷ rest))

-- what stands before the item with the number i
abbrev pub before_item : Text → ℕ → Text
before_item c i = if i == 0 then [] else c

-- items in brackets, with commas
abbrev pub list_text : {A : Type 0} → (A → Text) → List A → Text
list_text show xs = 91 ∷ (separated (44 ∷ []) (map show xs) ++ 93 ∷ [])

-- a grid number, as the decimal g / 10 ^ places
abbrev pub grid_text : ℕ → ℤ → Text
grid_text places g = decimal_text (of_grid g places)

abbrev pub point_text : ℕ → GridPoint → Text
point_text places p = 91 ∷ (grid_text places p.x ++ (44 ∷ (grid_text places p.y ++ 93 ∷ [])))

abbrev pub path_text : ℕ → Path → Text
path_text places p = list_text (point_text places) p

abbrev pub polygon_text : ℕ → Polygon → Text
polygon_text places p = list_text (path_text places) p

-- a geometry object of this type
abbrev pub type_text : Text → Text
type_text type = codes "{\"type\":\"" ++ (type ++ codes "\",\"coordinates\":")

abbrev pub typed : Text → Text → Text
typed type text = type_text type ++ (text ++ 125 ∷ [])

-- one item by its type, more by the type of many, none as null
abbrev pub one_or_many : {A : Type 0} → Text → Text → (A → Text) → List A → Text
one_or_many one many show [] = codes "null"
one_or_many one many show (x ∷ []) = typed one (show x)
one_or_many one many show (x ∷ y ∷ rest) = typed many (list_text show (x ∷ y ∷ rest))

abbrev pub geometry_text : ℕ → GeoShape → Text
geometry_text places Nothing = codes "null"
geometry_text places (Polygons ps) = one_or_many (codes "Polygon") (codes "MultiPolygon") (polygon_text places) ps
geometry_text places (Lines ps) = one_or_many (codes "LineString") (codes "MultiLineString") (path_text places) ps
geometry_text places (Points ps) = one_or_many (codes "Point") (codes "MultiPoint") (point_text places) ps

-- the name of a column, as it stands before each of its values
abbrev pub key_text : Text → Text
key_text name = string_text name ++ 58 ∷ []

abbrev pub member_text : Text × Value → Text
member_text m = m.0 ++ value_text m.1

-- the object of all columns, in order; null where there is none
abbrev pub row_text : List Text → RowValues → Text
row_text keys row = 123 ∷ (separated (44 ∷ []) (map member_text (zip keys row)) ++ 125 ∷ [])

abbrev pub properties_text : List Text → RowValues → Text
properties_text [] row = codes "null"
properties_text (key ∷ keys) row = row_text (key ∷ keys) row

abbrev pub feature_text : ℕ → List Text → RowValues × GeoShape → Text
feature_text places keys f = codes "{\"type\":\"Feature\",\"geometry\":" ++ (geometry_text places f.1 ++ (codes ",\"properties\":" ++ (properties_text keys f.0 ++ 125 ∷ [])))

abbrev pub features_text : ℕ → List Text → List RowValues → List GeoShape → Text
features_text places keys rows shapes = separated (codes ",\n") (map (feature_text places keys) (zip rows shapes))

-- a line feed where there is a feature
abbrev pub line_end : List GeoShape → Text
line_end [] = []
line_end (s ∷ rest) = 10 ∷ []

-- what stands before the first feature
abbrev pub collection_start : Text
collection_start = codes "{\"type\":\"FeatureCollection\",\"features\":[\n"

-- what stands after these features
abbrev pub collection_end : List GeoShape → Text
collection_end shapes = line_end shapes ++ codes "]}\n"

abbrev pub geojson_text : ℕ → LayerContent → Text
geojson_text places l = collection_start ++ (features_text places (map key_text l.table.names) l.table.rows l.shapes ++ collection_end l.shapes)
