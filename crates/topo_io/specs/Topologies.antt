-- The layers of a topology, after TopoJSON 1.0, section 2, or its first fault: at the top, then in the arcs, then in
-- the features of the objects, each in order.
use Rattle.std.specs.Prelude.{◌≡◌, ℕ, ◌+◌, ◌==◌, List, [], ◌∷◌, ◌++◌, map, length, codes, Option, Some, None, Result, Ok, Err, if◌then◌else◌}
use Rattle.std.specs.Str.{bytes_eq}
use Rattle.std.specs.List.{enumerate_from}
use Rattle.json_values.specs.Json.{JsonValue, FieldList, null, array, object}
use Rattle.json_values.specs.Lists.{items_list, fields_list, value_named}
use Rattle.json_values.specs.Table.{NamedValues}
use Rattle.plane_model.specs.Points.{Path}
use Rattle.geojson_io.specs.Reads.{Reads, on_ok, gives, fails, each, ◌>>=◌}
use Rattle.geojson_io.specs.Features.{property}
use Rattle.geojson_io.specs.Geometries.{type_of}
use Rattle.geojson_io.specs.LayerContent.{LayerContent}
use Rattle.geojson_io.specs.Layers.{layers_of}
use Rattle.geojson_io.specs.declared.shape.GeoShape.{GeoShape}
use Rattle.geojson_io.specs.declared.reading.features.Feature.{Feature}
use Rattle.topo_io.specs.Reads.{Fault, in_place}
use Rattle.topo_io.specs.Positions.{transform_of}
use Rattle.topo_io.specs.Shapes.{geometry}
use Rattle.topo_io.specs.Stitching.{arcs}
use Rattle.topo_io.specs.declared.fault.TopoWhy.{TopoWhy}
use Rattle.topo_io.specs.declared.fault.TopoWhy.TheVariants.{NotTopology, TooManyFeatures}
use Rattle.topo_io.specs.declared.fault.TopoPlace.TheVariants.{Top, Shape}
use Rattle.topo_io.specs.declared.frame.Transform.{Transform}
use Rattle.topo_io.specs.declared.frame.Frame.{Frame}
use Rattle.topo_io.specs.declared.reading.Topology.{Topology}
use Rattle.topo_io.specs.declared.reading.features.Numbers.{Numbers}

-- ## Features

-- a missing member counts as null
abbrev pub properties : Option JsonValue → Result NamedValues TopoWhy
properties None = Ok []
properties (Some null) = Ok []
properties (Some (object fs)) = Ok (map property (fields_list fs))
properties (Some _) = Err NotTopology

abbrev pub feature_with : FieldList → GeoShape → Reads TopoWhy Feature
feature_with fs g = λ room. on_ok (properties (value_named (codes "properties") (fields_list fs))) (λ (ps : NamedValues). Ok (record { shape = g; fields = ps }, room))

abbrev pub feature : Topology → JsonValue → Reads TopoWhy Feature
feature topology (object fs) = geometry topology fs >>= feature_with fs
feature topology _ = fails NotTopology

-- a feature by its number in its object, where there is room for it among all features
abbrev pub numbered_feature : Topology → Numbers → ℕ × JsonValue → Reads Fault Feature
numbered_feature topology numbers p =
    λ room. if numbers.before + p.0 == numbers.limit then Err (TooManyFeatures, Shape numbers.object p.0) else in_place (Shape numbers.object p.0) (feature topology p.1 room)

abbrev pub features : Topology → Numbers → List JsonValue → Reads Fault (List Feature)
features topology numbers js = each (numbered_feature topology numbers) (enumerate_from 0 js)

-- ## Objects

-- a collection's properties are an object, null or absent too
abbrev pub members_with : Option JsonValue → List JsonValue → Option (List JsonValue)
members_with None js = Some js
members_with (Some null) js = Some js
members_with (Some (object fs)) js = Some js
members_with (Some _) js = None

abbrev pub members_in : Option JsonValue → Option JsonValue → Option (List JsonValue)
members_in (Some (array items)) ps = members_with ps (items_list items)
members_in _ ps = None

-- the geometries of an object: those of a collection, or itself
abbrev pub geometries : JsonValue → Option (List JsonValue)
geometries (object fs) =
    if bytes_eq (type_of fs) (codes "GeometryCollection") then members_in (value_named (codes "geometries") (fields_list fs)) (value_named (codes "properties") (fields_list fs))
    else Some (object fs ∷ [])
geometries j = Some (j ∷ [])

abbrev pub features_among : Topology → Numbers → Option (List JsonValue) → Reads Fault (List Feature)
features_among topology numbers None = fails (NotTopology, Shape numbers.object 0)
features_among topology numbers (Some js) = features topology numbers js

abbrev pub object_features : Topology → Numbers → JsonValue → Reads Fault (List Feature)
object_features topology numbers j = features_among topology numbers (geometries j)

-- the numbers for the next object
abbrev pub after_features : Numbers → List Feature → Numbers
after_features numbers fs = record { object = numbers.object + 1; before = numbers.before + length fs; limit = numbers.limit }

-- the layers of the objects, one after another
abbrev pub object_layers : Topology → Numbers → List (List ℕ × JsonValue) → Reads Fault (List LayerContent)
object_layers topology numbers [] = gives []
object_layers topology numbers (o ∷ os) =
    object_features topology numbers o.1 >>= (λ (fs : List Feature).
    object_layers topology (after_features numbers fs) os >>= (λ (ls : List LayerContent).
    gives (layers_of o.0 fs ++ ls)))

-- the layers of an object are appended to others: those of the features that were read of it, `count` of them
pub record IsAdded (read : Result (List Feature × ℕ) Fault) (name : List ℕ) (old : List LayerContent) (count left : ℕ) (new : List LayerContent) : Type 0 where
  pub features : List Feature
  pub is_read : read ≡ Ok (features, left)
  pub count_is : count ≡ length features
  pub grown : new ≡ old ++ layers_of name features

-- ## A whole topology

-- the members of a topology
pub record Members : Type 0 where
  pub objects : FieldList
  pub arcs : List JsonValue
  pub transform : Option Transform

abbrev pub members_from : Option JsonValue → Option JsonValue → Option JsonValue → Result Members TopoWhy
members_from (Some (object os)) (Some (array items)) t = on_ok (transform_of t) (λ (t : Option Transform). Ok (record { objects = os; arcs = items_list items; transform = t }))
members_from (Some (object os)) _ t = Err NotTopology
members_from _ _ t = Err NotTopology

abbrev pub members : JsonValue → Result Members TopoWhy
members (object fs) =
    if bytes_eq (type_of fs) (codes "Topology") then members_from (value_named (codes "objects") (fields_list fs)) (value_named (codes "arcs") (fields_list fs)) (value_named (codes "transform") (fields_list fs))
    else Err NotTopology
members _ = Err NotTopology

abbrev pub first_numbers : ℕ → Numbers
first_numbers limit = record { object = 0; before = 0; limit = limit }

-- the layers of all objects
abbrev pub layers_of_members : Topology → ℕ → ℕ → FieldList → Result (List LayerContent) Fault
layers_of_members topology positions limit objects =
    on_ok (object_layers topology (first_numbers limit) (fields_list objects) positions) (λ (p : List LayerContent × ℕ). let layers : List LayerContent = p.0 in Ok layers)

abbrev pub layers_with : Frame → ℕ → ℕ → FieldList → List Path → Result (List LayerContent) Fault
layers_with frame positions limit objects arcs = layers_of_members (record { frame = frame; arcs = arcs }) positions limit objects

abbrev pub layers_in : ℕ → ℕ → ℕ → Members → Result (List LayerContent) Fault
layers_in places positions limit m =
    let frame : Frame = record { transform = m.transform; places = places } in
    on_ok (arcs frame m.arcs) (layers_with frame positions limit m.objects)

-- the layers of a topology, with `places` decimal places, where `positions` positions and `limit` features have room,
-- or its first fault
abbrev pub read_topojson : ℕ → ℕ → ℕ → JsonValue → Result (List LayerContent) Fault
read_topojson places positions limit j = on_ok (in_place Top (members j)) (layers_in places positions limit)
