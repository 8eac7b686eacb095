-- Geometries, after RFC 7946, section 3.1: an empty list of coordinates stands for nothing, and an empty polygon too.
use Rattle.std.specs.Prelude.{ℕ, Bool, true, false, List, [], ◌∷◌, filter, codes, Option, Some, None, if◌then◌else◌}
use Rattle.std.specs.Str.{bytes_eq}
use Rattle.json_values.specs.Json.{JsonValue, FieldList, null, string, object}
use Rattle.json_values.specs.Lists.{fields_list, value_named}
use Rattle.plane_model.specs.Points.{GridPoint, Path}
use Rattle.plane_model.specs.Drawing.{Polygon}
use Rattle.geojson_io.specs.Reads.{Reads, gives, fails, each, ◌>>=◌}
use Rattle.geojson_io.specs.Positions.{position, line, rings, items_of}
use Rattle.geojson_io.specs.declared.fault.ShapeWhy.{ShapeWhy}
use Rattle.geojson_io.specs.declared.fault.ShapeWhy.TheVariants.{BadPosition, NotGeo, Collection}
use Rattle.geojson_io.specs.declared.shape.GeoShape.{GeoShape}
use Rattle.geojson_io.specs.declared.shape.GeoShape.TheVariants.{Nothing, Polygons, Lines, Points}
use Rattle.geojson_io.specs.declared.reading.types.GeoType.{GeoType}
use Rattle.geojson_io.specs.declared.reading.types.GeoType.TheVariants as type

-- the type of a geometry, by its name
abbrev pub geo_type_of : List ℕ → Option GeoType
geo_type_of s =
    if bytes_eq s (codes "Point") then Some type.Point
    else (if bytes_eq s (codes "MultiPoint") then Some type.MultiPoint
    else (if bytes_eq s (codes "LineString") then Some type.LineString
    else (if bytes_eq s (codes "MultiLineString") then Some type.MultiLineString
    else (if bytes_eq s (codes "Polygon") then Some type.Polygon
    else (if bytes_eq s (codes "MultiPolygon") then Some type.MultiPolygon
    else None)))))

-- a geometry of which nothing remains is none
abbrev pub some_points : List GridPoint → GeoShape
some_points [] = Nothing
some_points (p ∷ ps) = Points (p ∷ ps)

abbrev pub some_lines : List Path → GeoShape
some_lines [] = Nothing
some_lines (p ∷ ps) = Lines (p ∷ ps)

abbrev pub some_polygons : List Polygon → GeoShape
some_polygons [] = Nothing
some_polygons (p ∷ ps) = Polygons (p ∷ ps)

-- coordinates that are one geometry's, or no coordinates
abbrev pub one_unless_empty : {A : Type 0} → (JsonValue → Reads ShapeWhy A) → JsonValue → List JsonValue → Reads ShapeWhy (List A)
one_unless_empty read j [] = gives []
one_unless_empty read j (v ∷ vs) = read j >>= (λ x. gives (x ∷ []))

abbrev pub one : {A : Type 0} → (JsonValue → Reads ShapeWhy A) → JsonValue → Reads ShapeWhy (List A)
one read j = items_of j >>= one_unless_empty read j

-- coordinates that are several geometries'
abbrev pub several : {A : Type 0} → (JsonValue → Reads ShapeWhy A) → JsonValue → Reads ShapeWhy (List A)
several read j = items_of j >>= each read

-- a polygon without rings is none
abbrev pub has_rings : Polygon → Bool
has_rings [] = false
has_rings (r ∷ rs) = true

abbrev pub with_rings : List Polygon → Reads ShapeWhy (List Polygon)
with_rings ps = gives (filter has_rings ps)

abbrev pub one_polygon : ℕ → JsonValue → Reads ShapeWhy (List Polygon)
one_polygon places j = one (rings places) j >>= with_rings

abbrev pub several_polygons : ℕ → JsonValue → Reads ShapeWhy (List Polygon)
several_polygons places j = several (rings places) j >>= with_rings

abbrev pub shape_of : ℕ → GeoType → JsonValue → Reads ShapeWhy GeoShape
shape_of places type.Point j = one (position places) j >>= (λ (ps : List GridPoint). gives (some_points ps))
shape_of places type.MultiPoint j = several (position places) j >>= (λ (ps : List GridPoint). gives (some_points ps))
shape_of places type.LineString j = one (line places) j >>= (λ (ps : List Path). gives (some_lines ps))
shape_of places type.MultiLineString j = several (line places) j >>= (λ (ps : List Path). gives (some_lines ps))
shape_of places type.Polygon j = one_polygon places j >>= (λ (ps : List Polygon). gives (some_polygons ps))
shape_of places type.MultiPolygon j = several_polygons places j >>= (λ (ps : List Polygon). gives (some_polygons ps))

abbrev pub shape_in : ℕ → GeoType → Option JsonValue → Reads ShapeWhy GeoShape
shape_in places t None = fails BadPosition
shape_in places t (Some j) = shape_of places t j

-- a type's name, or nothing
abbrev pub text_of : Option JsonValue → List ℕ
text_of (Some (string s)) = s
text_of _ = []

abbrev pub type_of : FieldList → List ℕ
type_of fs = text_of (value_named (codes "type") (fields_list fs))

abbrev pub shape_typed : ℕ → Option GeoType → Option JsonValue → Reads ShapeWhy GeoShape
shape_typed places None j = fails NotGeo
shape_typed places (Some t) j = shape_in places t j

abbrev pub geometry_of_fields : ℕ → FieldList → Reads ShapeWhy GeoShape
geometry_of_fields places fs =
    if bytes_eq (type_of fs) (codes "GeometryCollection") then fails Collection
    else shape_typed places (geo_type_of (type_of fs)) (value_named (codes "coordinates") (fields_list fs))

-- a geometry inside a feature or a collection
abbrev pub geometry : ℕ → JsonValue → Reads ShapeWhy GeoShape
geometry places null = gives Nothing
geometry places (object fs) = geometry_of_fields places fs
geometry places _ = fails NotGeo
