-- Features, after RFC 7946, sections 3.2 and 3.3: their geometries and properties, in order, with the first fault and
-- its feature's number.
use Rattle.std.specs.Prelude.{ℕ, ◌==◌, List, [], ◌∷◌, map, codes, Option, Some, None, Result, Ok, Err, if◌then◌else◌}
use Rattle.std.specs.Str.{bytes_eq}
use Rattle.std.specs.List.{enumerate_from}
use Rattle.json_values.specs.Json.{JsonValue, FieldList, null, boolean, number, string, array, object}
use Rattle.json_values.specs.Lists.{items_list, fields_list, value_named}
use Rattle.json_values.specs.Table.{NamedValues}
use Rattle.json_values.specs.Value.{value_of}
use Rattle.json_values.specs.declared.json.Json.{Json}
use Rattle.json_values.specs.declared.json.Json.TheVariants as json
use Rattle.json_values.specs.declared.value.Value.{Value}
use Rattle.geojson_io.specs.Reads.{Reads, Fault, gives, fails, each, ◌>>=◌}
use Rattle.geojson_io.specs.Geometries.{geometry, type_of, geo_type_of}
use Rattle.geojson_io.specs.declared.fault.ShapeWhy.{ShapeWhy}
use Rattle.geojson_io.specs.declared.fault.ShapeWhy.TheVariants.{NotGeo, TooManyFeatures}
use Rattle.geojson_io.specs.declared.shape.GeoShape.{GeoShape}
use Rattle.geojson_io.specs.declared.reading.types.Member.{Member}
use Rattle.geojson_io.specs.declared.reading.types.Member.TheVariants as member
use Rattle.geojson_io.specs.declared.reading.types.GeoType.{GeoType}
use Rattle.geojson_io.specs.declared.reading.features.Feature.{Feature}

-- ## Properties

-- a JSON value as a cell takes it
abbrev pub json_of : JsonValue → Json
json_of null = json.Null
json_of (boolean b) = json.Bool b
json_of (number s) = json.Num s
json_of (string s) = json.Text s
json_of (array vs) = json.List vs
json_of (object fs) = json.Object fs

abbrev pub property : List ℕ × JsonValue → List ℕ × Value
property f = (f.0, value_of (json_of f.1))

-- a missing member counts as null
abbrev pub properties : Option JsonValue → Reads ShapeWhy NamedValues
properties None = gives []
properties (Some null) = gives []
properties (Some (object fs)) = gives (map property (fields_list fs))
properties (Some _) = fails NotGeo

-- ## One feature

abbrev pub or_null : Option JsonValue → JsonValue
or_null None = null
or_null (Some j) = j

abbrev pub feature_of_fields : ℕ → FieldList → Reads ShapeWhy Feature
feature_of_fields places fs =
    geometry places (or_null (value_named (codes "geometry") (fields_list fs))) >>= (λ (g : GeoShape).
    properties (value_named (codes "properties") (fields_list fs)) >>= (λ (ps : NamedValues).
    gives (record { shape = g; fields = ps })))

abbrev pub feature : ℕ → JsonValue → Reads ShapeWhy Feature
feature places (object fs) = if bytes_eq (type_of fs) (codes "Feature") then feature_of_fields places fs else fails NotGeo
feature places _ = fails NotGeo

-- a geometry, as a feature without properties
abbrev pub bare_feature : ℕ → JsonValue → Reads ShapeWhy Feature
bare_feature places j = geometry places j >>= (λ (g : GeoShape). gives (record { shape = g; fields = [] }))

abbrev pub member_of : Member → ℕ → JsonValue → Reads ShapeWhy Feature
member_of member.Feature places j = feature places j
member_of member.Geometry places j = bare_feature places j

-- ## All features

abbrev pub in_feature : ℕ → Result (Feature × ℕ) ShapeWhy → Result (Feature × ℕ) Fault
in_feature n (Ok p) = Ok p
in_feature n (Err why) = Err (why, n)

-- feature number n, where there is room for it
abbrev pub numbered : Member → ℕ → ℕ → ℕ × JsonValue → Reads Fault Feature
numbered kind places limit p = λ room. if p.0 == limit then Err (TooManyFeatures, p.0) else in_feature p.0 (member_of kind places p.1 room)

abbrev pub members : Member → ℕ → ℕ → List JsonValue → Reads Fault (List Feature)
members kind places limit vs = each (numbered kind places limit) (enumerate_from 0 vs)

abbrev pub in_list : Member → Option JsonValue → Option (Member × List JsonValue)
in_list kind (Some (array vs)) = Some (kind, items_list vs)
in_list kind _ = None

abbrev pub if_typed : JsonValue → Option GeoType → Option (Member × List JsonValue)
if_typed j None = None
if_typed j (Some t) = Some (member.Geometry, j ∷ [])

-- the members of a FeatureCollection or a GeometryCollection, or a Feature or a geometry alone
abbrev pub top_members : JsonValue → Option (Member × List JsonValue)
top_members (object fs) =
    let type : List ℕ = type_of fs in
    if bytes_eq type (codes "FeatureCollection") then in_list member.Feature (value_named (codes "features") (fields_list fs))
    else (if bytes_eq type (codes "Feature") then Some (member.Feature, object fs ∷ [])
    else (if bytes_eq type (codes "GeometryCollection") then in_list member.Geometry (value_named (codes "geometries") (fields_list fs))
    else if_typed (object fs) (geo_type_of type)))
top_members _ = None

abbrev pub features_among : ℕ → ℕ → Option (Member × List JsonValue) → Reads Fault (List Feature)
features_among places limit None = fails (NotGeo, 0)
features_among places limit (Some p) = members p.0 places limit p.1

-- the features of a GeoJSON value, with `places` decimal places, where `limit` of them have room
abbrev pub features_of : ℕ → ℕ → JsonValue → Reads Fault (List Feature)
features_of places limit j = features_among places limit (top_members j)
