use Rattle.json_values.specs.Seen.{json_value}
use Rattle.geojson_io.specs.Positions.{rings}
use Rattle.geojson_io.specs.Geometries.{several, several_polygons, some_polygons}
use Rattle.geojson_io.proofs.StraightLemmas.{kept_read, list_shape}
use Rattle.geojson_io.proofs.reading.straight_shapes.polygons_shape.Goals as goal

pub returns : goal.returns
returns c =
    let places = c.args.places in
    let left = c.args.left.now in
    let after = c.read_list.new.left in
    let h = rw c.in-Some.is at c.in_ok-polygons.ensures.read in
    let kept = kept_read (several (rings places)) left c.in-Some.polygons after (json_value h.0) c.in_ok-kept.kept h.2 c.in_ok-kept.ensures.exact in
    record { read = (h.0, h.1, list_shape (several_polygons places) some_polygons left c.in_ok-kept.kept after (json_value h.0) c.some_polygons.result kept c.some_polygons.ensures.exact) }
