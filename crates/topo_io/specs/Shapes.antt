-- Geometries of a topology, after TopoJSON 1.0, section 2.2: an empty list stands for nothing, and so does a geometry
-- of which nothing remains.
use Rattle.std.specs.Prelude.{◌-◌, ◌==◌, Bool, true, false, List, [], ◌∷◌, codes, Option, Some, None, Ok, Err, if◌then◌else◌}
use Rattle.json_values.specs.Json.{JsonValue, FieldList, null, array}
use Rattle.json_values.specs.Lists.{items_list, fields_list, value_named}
use Rattle.plane_model.specs.Points.{GridPoint, Path}
use Rattle.plane_model.specs.Drawing.{Polygon}
use Rattle.std.specs.Str.{bytes_eq}
use Rattle.geojson_io.specs.Reads.{Reads, on_ok, gives, fails, each, ◌>>=◌}
use Rattle.geojson_io.specs.Geometries.{geo_type_of, has_rings, some_points, some_lines, some_polygons, type_of}
use Rattle.geojson_io.specs.declared.shape.GeoShape.{GeoShape}
use Rattle.geojson_io.specs.declared.shape.GeoShape.TheVariants.{Nothing}
use Rattle.geojson_io.specs.declared.reading.types.GeoType.{GeoType}
use Rattle.geojson_io.specs.declared.reading.types.GeoType.TheVariants as type
use Rattle.topo_io.specs.Positions.{lone_position}
use Rattle.topo_io.specs.Stitching.{each_kept, has_points, kept, list_of, path_of, rings_of, stitched}
use Rattle.topo_io.specs.declared.fault.TopoWhy.{TopoWhy}
use Rattle.topo_io.specs.declared.fault.TopoWhy.TheVariants.{NotTopology, BadPosition, TooManyPositions, Collection}
use Rattle.topo_io.specs.declared.frame.Frame.{Frame}
use Rattle.topo_io.specs.declared.reading.Topology.{Topology}

-- ## Points

-- each position takes one of the room
abbrev pub position : Frame → JsonValue → Reads TopoWhy GridPoint
position frame j = λ room. if room == 0 then Err TooManyPositions else on_ok (lone_position frame j) (λ (p : GridPoint). Ok (p, room - 1))

abbrev pub coordinates_of : JsonValue → Reads TopoWhy (List JsonValue)
coordinates_of (array items) = gives (items_list items)
coordinates_of _ = fails BadPosition

-- one position, or no coordinates
abbrev pub point_unless_empty : Frame → JsonValue → List JsonValue → Reads TopoWhy (List GridPoint)
point_unless_empty frame j [] = gives []
point_unless_empty frame j (v ∷ vs) = position frame j >>= (λ (p : GridPoint). gives (p ∷ []))

abbrev pub one_point : Frame → JsonValue → Reads TopoWhy (List GridPoint)
one_point frame j = coordinates_of j >>= point_unless_empty frame j

abbrev pub several_points : Frame → JsonValue → Reads TopoWhy (List GridPoint)
several_points frame j = coordinates_of j >>= each (position frame)

-- ## Lines and polygons

abbrev pub one_line : List Path → List JsonValue → Reads TopoWhy (List Path)
one_line arcs js = stitched arcs [] js >>= (λ (path : Path). kept has_points (path ∷ []))

abbrev pub several_lines : List Path → List JsonValue → Reads TopoWhy (List Path)
several_lines arcs js = each_kept has_points (path_of arcs) js

abbrev pub one_polygon : List Path → List JsonValue → Reads TopoWhy (List Polygon)
one_polygon arcs js = rings_of arcs js >>= (λ (polygon : Polygon). kept has_rings (polygon ∷ []))

abbrev pub polygon_of : List Path → JsonValue → Reads TopoWhy Polygon
polygon_of arcs j = list_of j >>= rings_of arcs

abbrev pub several_polygons : List Path → List JsonValue → Reads TopoWhy (List Polygon)
several_polygons arcs js = each_kept has_rings (polygon_of arcs) js

-- ## A geometry by its type

abbrev pub point_shape : List GridPoint → Reads TopoWhy GeoShape
point_shape ps = gives (some_points ps)

abbrev pub line_shape : List Path → Reads TopoWhy GeoShape
line_shape ls = gives (some_lines ls)

abbrev pub polygon_shape : List Polygon → Reads TopoWhy GeoShape
polygon_shape ps = gives (some_polygons ps)

-- the shape of lists of arc indexes
abbrev pub stitched_shape : GeoType → List Path → List JsonValue → Reads TopoWhy GeoShape
stitched_shape type.LineString arcs js = one_line arcs js >>= line_shape
stitched_shape type.MultiLineString arcs js = several_lines arcs js >>= line_shape
stitched_shape type.Polygon arcs js = one_polygon arcs js >>= polygon_shape
stitched_shape type.MultiPolygon arcs js = several_polygons arcs js >>= polygon_shape
stitched_shape type.Point arcs js = gives Nothing
stitched_shape type.MultiPoint arcs js = gives Nothing

abbrev pub points_in : (JsonValue → Reads TopoWhy (List GridPoint)) → Option JsonValue → Reads TopoWhy GeoShape
points_in read None = fails BadPosition
points_in read (Some j) = read j >>= point_shape

abbrev pub paths_in : GeoType → List Path → Option JsonValue → Reads TopoWhy GeoShape
paths_in kind arcs None = fails NotTopology
paths_in kind arcs (Some j) = list_of j >>= stitched_shape kind arcs

abbrev pub coordinates : FieldList → Option JsonValue
coordinates fs = value_named (codes "coordinates") (fields_list fs)

abbrev pub arc_lists : FieldList → Option JsonValue
arc_lists fs = value_named (codes "arcs") (fields_list fs)

abbrev pub shape_in : GeoType → Topology → FieldList → Reads TopoWhy GeoShape
shape_in type.Point topology fs = points_in (one_point topology.frame) (coordinates fs)
shape_in type.MultiPoint topology fs = points_in (several_points topology.frame) (coordinates fs)
shape_in type.LineString topology fs = paths_in type.LineString topology.arcs (arc_lists fs)
shape_in type.MultiLineString topology fs = paths_in type.MultiLineString topology.arcs (arc_lists fs)
shape_in type.Polygon topology fs = paths_in type.Polygon topology.arcs (arc_lists fs)
shape_in type.MultiPolygon topology fs = paths_in type.MultiPolygon topology.arcs (arc_lists fs)

abbrev pub shape_typed : Option GeoType → Topology → FieldList → Reads TopoWhy GeoShape
shape_typed None topology fs = fails NotTopology
shape_typed (Some kind) topology fs = shape_in kind topology fs

abbrev pub typed_geometry : Topology → FieldList → Reads TopoWhy GeoShape
typed_geometry topology fs =
    if bytes_eq (type_of fs) (codes "GeometryCollection") then fails Collection
    else shape_typed (geo_type_of (type_of fs)) topology fs

abbrev pub is_null : Option JsonValue → Bool
is_null (Some null) = true
is_null _ = false

-- a geometry whose type is null is none
abbrev pub geometry : Topology → FieldList → Reads TopoWhy GeoShape
geometry topology fs = if is_null (value_named (codes "type") (fields_list fs)) then gives Nothing else typed_geometry topology fs
