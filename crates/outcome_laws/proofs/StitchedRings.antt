-- Whatever a topology is read as is sound: its rings have points and are closed, and its lines have points.
use Rattle.std.proofs.Common.{◌≡◌, refl, subst, ℕ, ◌+◌, Bool, true, false, List, [], ◌∷◌, ◌++◌, All, Option, Some, None, Result, Ok, Err, filter, codes, bytes_eq}
use Rattle.std.specs.Prelude.{◌==◌, if◌then◌else◌, IfOk}
use Rattle.std.specs.List.{enumerate_from}
use Rattle.std.proofs.lemmas.List.Elements.{All-append, All-cons, All-filter, All-head, All-nil, All-tail}
use Rattle.json_values.specs.Json.{FieldList, JsonValue, array, boolean, null, number, object, string}
use Rattle.json_values.specs.Lists.{fields_list, value_named}
use Rattle.json_values.specs.Table.{NamedValues}
use Rattle.plane_model.specs.Points.{GridPoint, Path}
use Rattle.plane_model.specs.Drawing.{Polygon}
use Rattle.plane_model.specs.Joined.{IsClosed}
use Rattle.geojson_io.specs.Geometries.{geo_type_of, has_rings, type_of}
use Rattle.geojson_io.specs.LayerContent.{LayerContent}
use Rattle.geojson_io.specs.Layers.{layers_of}
use Rattle.geojson_io.specs.Positions.{is_closed}
use Rattle.geojson_io.specs.Reads.{Reads, each, fails, gives, on_ok, ◌>>=◌}
use Rattle.geojson_io.specs.Sound.{FeatureIsSound, HasPoints, IsRing, LayerIsSound, ShapeIsSound}
use Rattle.geojson_io.specs.declared.reading.features.Feature.{Feature}
use Rattle.geojson_io.specs.declared.reading.types.GeoType.{GeoType}
use Rattle.geojson_io.specs.declared.reading.types.GeoType.TheVariants as type
use Rattle.geojson_io.specs.declared.shape.GeoShape.{GeoShape}
use Rattle.geojson_io.specs.declared.shape.GeoShape.TheVariants.{Nothing}
use Rattle.geojson_io.proofs.SoundLemmas.{ends_at_start, has_first, sound_layers, sound_lines, sound_points, sound_polygons}
use Rattle.geojson_io.proofs.SoundReads.{Gives, after, either, given_each, next}
use Rattle.topo_io.specs.Reads.{Fault, in_place}
use Rattle.topo_io.specs.Shapes.{arc_lists, coordinates, geometry, is_null, line_shape, one_line, one_point, one_polygon, paths_in, point_shape, points_in, polygon_of, polygon_shape, several_lines, several_points, several_polygons, shape_in, shape_typed, stitched_shape, typed_geometry}
use Rattle.topo_io.specs.Stitching.{arcs, closed, has_points, kept, list_of, path_of, ring_of, rings_of, stitched}
use Rattle.topo_io.specs.Topologies.{Members, after_features, feature, feature_with, features_among, first_numbers, geometries, layers_in, layers_of_members, layers_with, members, numbered_feature, object_features, object_layers, properties, read_topojson}
use Rattle.topo_io.specs.declared.fault.TopoPlace.TheVariants.{Shape, Top}
use Rattle.topo_io.specs.declared.fault.TopoWhy.{TopoWhy}
use Rattle.topo_io.specs.declared.fault.TopoWhy.TheVariants.{Collection, RingOpen, TooManyFeatures}
use Rattle.topo_io.specs.declared.frame.Frame.{Frame}
use Rattle.topo_io.specs.declared.reading.Topology.{Topology}
use Rattle.topo_io.specs.declared.reading.features.Numbers.{Numbers}

-- ## Readings

abbrev IsGiven : {E A : Type 0} → (A → Type 0) → Result (A × ℕ) E → Type 0
IsGiven {E} {A} P r = IfOk r (λ (p : A × ℕ). P p.0)

-- ## Paths and rings that have points

paths_kept : (paths : List Path) → All HasPoints (filter has_points paths)
paths_kept [] = All-nil HasPoints
paths_kept ([] ∷ paths) = paths_kept paths
paths_kept ((p ∷ rest) ∷ paths) = All-cons HasPoints (p ∷ rest) (filter has_points paths) (has_first p rest) (paths_kept paths)

rings_kept : (paths : List Path) → All IsClosed paths → All IsRing (filter has_points paths)
rings_kept [] h = All-nil IsRing
rings_kept ([] ∷ paths) h = rings_kept paths (All-tail IsClosed [] paths h)
rings_kept ((p ∷ rest) ∷ paths) h = All-cons IsRing (p ∷ rest) (filter has_points paths) (has_first p rest, All-head IsClosed (p ∷ rest) paths h) (rings_kept paths (All-tail IsClosed (p ∷ rest) paths h))

closed_given : (path : Path) → Gives IsClosed (closed path)
closed_given path = go (is_closed path) refl
  where
    go : (b : Bool) → is_closed path ≡ b → Gives IsClosed (if b then gives path else fails RingOpen)
    go true e room = ends_at_start path e
    go false e room = tt

module _ (arcs : List Path) where
  ring_given : (j : JsonValue) → Gives IsClosed (ring_of arcs j)
  ring_given j = after IsClosed (path_of arcs j) closed closed_given

  rings_given : (js : List JsonValue) → Gives (All IsRing) (rings_of arcs js)
  rings_given js = next (All IsClosed) (All IsRing) (each (ring_of arcs) js) (kept has_points) (given_each IsClosed (ring_of arcs) ring_given js) (λ paths h room. rings_kept paths h)

  line_given : (js : List JsonValue) → Gives (All HasPoints) (one_line arcs js)
  line_given js = after (All HasPoints) (stitched arcs [] js) (λ (path : Path). kept has_points (path ∷ [])) (λ path room. paths_kept (path ∷ []))

  lines_given : (js : List JsonValue) → Gives (All HasPoints) (several_lines arcs js)
  lines_given js = after (All HasPoints) (each (path_of arcs) js) (kept has_points) (λ paths room. paths_kept paths)

  polygon_given : (js : List JsonValue) → Gives (All (All IsRing)) (one_polygon arcs js)
  polygon_given js = next (All IsRing) (All (All IsRing)) (rings_of arcs js) (λ (polygon : Polygon). kept has_rings (polygon ∷ [])) (rings_given js)
      (λ polygon h room. All-filter has_rings (All IsRing) (polygon ∷ []) (All-cons (All IsRing) polygon [] h (All-nil (All IsRing))))

  one_of_several : (j : JsonValue) → Gives (All IsRing) (polygon_of arcs j)
  one_of_several j = after (All IsRing) (list_of j) (rings_of arcs) rings_given

  polygons_given : (js : List JsonValue) → Gives (All (All IsRing)) (several_polygons arcs js)
  polygons_given js = next (All (All IsRing)) (All (All IsRing)) (each (polygon_of arcs) js) (kept has_rings) (given_each (All IsRing) (polygon_of arcs) one_of_several js) (λ polygons h room. All-filter has_rings (All IsRing) polygons h)

  -- ## Shapes

  stitched_given : (t : GeoType) (js : List JsonValue) → Gives ShapeIsSound (stitched_shape t arcs js)
  stitched_given type.LineString js = next (All HasPoints) ShapeIsSound (one_line arcs js) line_shape (line_given js) (λ ls h room. sound_lines ls h)
  stitched_given type.MultiLineString js = next (All HasPoints) ShapeIsSound (several_lines arcs js) line_shape (lines_given js) (λ ls h room. sound_lines ls h)
  stitched_given type.Polygon js = next (All (All IsRing)) ShapeIsSound (one_polygon arcs js) polygon_shape (polygon_given js) (λ ps h room. sound_polygons ps h)
  stitched_given type.MultiPolygon js = next (All (All IsRing)) ShapeIsSound (several_polygons arcs js) polygon_shape (polygons_given js) (λ ps h room. sound_polygons ps h)
  stitched_given type.Point js = λ room. tt
  stitched_given type.MultiPoint js = λ room. tt

  paths_given : (t : GeoType) (j : Option JsonValue) → Gives ShapeIsSound (paths_in t arcs j)
  paths_given t None = λ room. tt
  paths_given t (Some j) = after ShapeIsSound (list_of j) (stitched_shape t arcs) (stitched_given t)

points_given : (read : JsonValue → Reads TopoWhy (List GridPoint)) (j : Option JsonValue) → Gives ShapeIsSound (points_in read j)
points_given read None = λ room. tt
points_given read (Some j) = after ShapeIsSound (read j) point_shape (λ ps room. sound_points ps)

module _ (topology : Topology) where
  shape_given : (t : GeoType) (fs : FieldList) → Gives ShapeIsSound (shape_in t topology fs)
  shape_given type.Point fs = points_given (one_point topology.frame) (coordinates fs)
  shape_given type.MultiPoint fs = points_given (several_points topology.frame) (coordinates fs)
  shape_given type.LineString fs = paths_given topology.arcs type.LineString (arc_lists fs)
  shape_given type.MultiLineString fs = paths_given topology.arcs type.MultiLineString (arc_lists fs)
  shape_given type.Polygon fs = paths_given topology.arcs type.Polygon (arc_lists fs)
  shape_given type.MultiPolygon fs = paths_given topology.arcs type.MultiPolygon (arc_lists fs)

  typed_given : (t : Option GeoType) (fs : FieldList) → Gives ShapeIsSound (shape_typed t topology fs)
  typed_given None fs = λ room. tt
  typed_given (Some t) fs = shape_given t fs

  geometry_given : (fs : FieldList) → Gives ShapeIsSound (geometry topology fs)
  geometry_given fs =
      either ShapeIsSound (is_null (value_named (codes "type") (fields_list fs))) (gives Nothing) (typed_geometry topology fs) (λ room. tt)
      (either ShapeIsSound (bytes_eq (type_of fs) (codes "GeometryCollection")) (fails Collection) (shape_typed (geo_type_of (type_of fs)) topology fs) (λ room. tt) (typed_given (geo_type_of (type_of fs)) fs))

  -- ## Features

  feature_given : (j : JsonValue) → Gives FeatureIsSound (feature topology j)
  feature_given (object fs) = next ShapeIsSound FeatureIsSound (geometry topology fs) (feature_with fs) (geometry_given fs) (λ g h room. with_properties g h room (properties (value_named (codes "properties") (fields_list fs))))
    where
      with_properties : (g : GeoShape) → ShapeIsSound g → (room : ℕ) (r : Result NamedValues TopoWhy) → IsGiven FeatureIsSound (on_ok r (λ (ps : NamedValues). Ok (record { shape = g; fields = ps }, room)))
      with_properties g h room (Ok ps) = h
      with_properties g h room (Err e) = tt
  feature_given null = λ room. tt
  feature_given (boolean b) = λ room. tt
  feature_given (number s) = λ room. tt
  feature_given (string s) = λ room. tt
  feature_given (array vs) = λ room. tt

  numbered_given : (numbers : Numbers) (p : ℕ × JsonValue) → Gives FeatureIsSound (numbered_feature topology numbers p)
  numbered_given numbers p room = go (numbers.before + p.0 == numbers.limit) (feature topology p.1 room) (feature_given p.1 room)
    where
      go : (b : Bool) (r : Result (Feature × ℕ) TopoWhy) → IsGiven FeatureIsSound r → IsGiven FeatureIsSound (if b then Err (TooManyFeatures, Shape numbers.object p.0) else in_place (Shape numbers.object p.0) r)
      go true r h = tt
      go false (Ok q) h = h
      go false (Err e) h = tt

  features_given : (numbers : Numbers) (o : Option (List JsonValue)) → Gives (All FeatureIsSound) (features_among topology numbers o)
  features_given numbers None = λ room. tt
  features_given numbers (Some js) = given_each FeatureIsSound (numbered_feature topology numbers) (numbered_given numbers) (enumerate_from 0 js)

  -- ## Layers

  layers_given : (numbers : Numbers) (os : List (List ℕ × JsonValue)) → Gives (All LayerIsSound) (object_layers topology numbers os)
  layers_given numbers [] = λ room. All-nil LayerIsSound
  layers_given numbers (o ∷ os) =
      next (All FeatureIsSound) (All LayerIsSound) (object_features topology numbers o.1) (λ (fs : List Feature). object_layers topology (after_features numbers fs) os >>= (λ (ls : List LayerContent). gives (layers_of o.0 fs ++ ls)))
      (features_given numbers (geometries o.1))
      (λ fs h. next (All LayerIsSound) (All LayerIsSound) (object_layers topology (after_features numbers fs) os) (λ (ls : List LayerContent). gives (layers_of o.0 fs ++ ls)) (layers_given (after_features numbers fs) os)
      (λ ls g room. All-append LayerIsSound (layers_of o.0 fs) ls (sound_layers o.0 fs h) g))

-- ## A whole topology

abbrev AreSound : Result (List LayerContent) Fault → Type 0
AreSound (Ok ls) = All LayerIsSound ls
AreSound (Err e) = Unit {0}

whole_given : (topology : Topology) (positions limit : ℕ) (objects : FieldList) → AreSound (layers_of_members topology positions limit objects)
whole_given topology positions limit objects = go (object_layers topology (first_numbers limit) (fields_list objects) positions) (layers_given topology (first_numbers limit) (fields_list objects) positions)
  where
    go : (r : Result (List LayerContent × ℕ) Fault) → IsGiven (All LayerIsSound) r → AreSound (on_ok r (λ (p : List LayerContent × ℕ). let layers : List LayerContent = p.0 in Ok layers))
    go (Ok p) h = h
    go (Err e) h = tt

in_members : (places positions limit : ℕ) (m : Members) → AreSound (layers_in places positions limit m)
in_members places positions limit m = go (arcs frame m.arcs)
  where
    frame : Frame
    frame = record { transform = m.transform; places = places }

    go : (r : Result (List Path) Fault) → AreSound (on_ok r (layers_with frame positions limit m.objects))
    go (Err e) = tt
    go (Ok paths) = whole_given (record { frame = frame; arcs = paths }) positions limit m.objects

read_given : (places positions limit : ℕ) (j : JsonValue) → AreSound (read_topojson places positions limit j)
read_given places positions limit j = go (in_place Top (members j))
  where
    go : (r : Result Members Fault) → AreSound (on_ok r (layers_in places positions limit))
    go (Err e) = tt
    go (Ok m) = in_members places positions limit m

-- the layers of a topology are sound
pub stitched_sound : (places positions limit : ℕ) (j : JsonValue) (layers : List LayerContent) → read_topojson places positions limit j ≡ Ok layers → All LayerIsSound layers
stitched_sound places positions limit j layers e = let h : AreSound (Ok layers) = subst AreSound e (read_given places positions limit j) in h
