-- Features that are read straight from their texts, without a JSON value of their coordinates.
use Rattle.std.specs.Prelude.{ℕ, ◌≡◌, true, List, [], ◌∷◌, map, codes, Some, Ok, IfSome, MatchOption}
use Rattle.json_values.specs.Json.{JsonValue, ItemList, string, array, item}
use Rattle.json_values.specs.Lists.{value_named}
use Rattle.json_values.specs.Table.{NamedValues}
use Rattle.geojson_io.specs.Reads.{Reads, each}
use Rattle.geojson_io.specs.Geometries.{geo_type_of, geometry, shape_of}
use Rattle.geojson_io.specs.Features.{or_null, properties, property}
use Rattle.geojson_io.specs.declared.fault.ShapeWhy.{ShapeWhy}
use Rattle.geojson_io.specs.declared.shape.GeoShape.{GeoShape}
use Rattle.geojson_io.specs.declared.reading.types.GeoType.{GeoType}
use Rattle.geojson_io.specs.declared.reading.straight_features.GeometryTaker.{GeometryTaker}
use Rattle.geojson_io.specs.declared.reading.straight_features.PartTaker.{PartTaker}
use Rattle.geojson_io.specs.declared.reading.straight_features.PropertyTaker.{PropertyTaker}

-- this is read of a value, which leaves `after` of the room
abbrev pub ReadsAs : {A : Type 0} → (JsonValue → Reads ShapeWhy A) → ℕ → A → ℕ → JsonValue → Type 0
ReadsAs read room x after v = read v room ≡ Ok (x, after)

-- the same of a list with items
abbrev pub ReadsListAs : {A : Type 0} → (JsonValue → Reads ShapeWhy A) → ℕ → A → ℕ → JsonValue → Type 0
ReadsListAs read room x after v = ((w : JsonValue) × (ws : ItemList) × (v ≡ array (item w ws))) × ReadsAs read room x after v

-- ## What was taken, by the state at first and the state now

-- a list was read of values, item by item
abbrev pub HasList : {A : Type 0} → (ℕ → JsonValue → Reads ShapeWhy A) → ℕ → ℕ → ℕ → List A → ℕ → List JsonValue → Type 0
HasList read first_places room places list left vs = (places ≡ first_places) × (each (read first_places) vs room ≡ Ok (list, left))

abbrev pub Member : Type 0
Member = List ℕ × JsonValue

-- no member, or a type
abbrev pub HasType : GeometryTaker → GeometryTaker → List Member → Type 0
HasType first now fs =
    (now.left ≡ first.left) × MatchOption now.kind (fs ≡ []) (λ t. (s : List ℕ) × (geo_type_of s ≡ Some t) × (fs ≡ (codes "type", string s) ∷ []))

-- a type, and coordinates that are a shape
abbrev pub HasShape : GeometryTaker → GeometryTaker → GeoShape → List Member → Type 0
HasShape first now g fs =
    (s : List ℕ) × (t : GeoType) × (v : JsonValue) × (geo_type_of s ≡ Some t) × (fs ≡ (codes "type", string s) ∷ (codes "coordinates", v) ∷ []) × ReadsAs (shape_of first.places t) first.left g now.left v

abbrev pub HasGeometry : GeometryTaker → GeometryTaker → List Member → Type 0
HasGeometry first now fs = (now.places ≡ first.places) × MatchOption now.shape (HasType first now fs) (λ g. HasShape first now g fs)

abbrev pub HasProperties : PropertyTaker → PropertyTaker → List Member → Type 0
HasProperties first now fs = now.fields ≡ map property fs

-- a value that has these named values as properties
abbrev pub AreProperties : NamedValues → JsonValue → Type 0
AreProperties fields v = (room : ℕ) → properties (Some v) room ≡ Ok (fields, room)

-- the parts of a feature that its members hold
pub record HasParts (first now : PartTaker) (fs : List Member) : Type 0 where
  pub places : now.places ≡ first.places
  pub feature : now.is_feature ≡ true → value_named (codes "type") fs ≡ Some (string (codes "Feature"))
  pub named : IfSome now.fields (λ ps. (room : ℕ) → properties (value_named (codes "properties") fs) room ≡ Ok (ps, room))
  pub shape : MatchOption now.shape (now.left ≡ first.left) (λ g. ReadsAs (geometry first.places) first.left g now.left (or_null (value_named (codes "geometry") fs)))
