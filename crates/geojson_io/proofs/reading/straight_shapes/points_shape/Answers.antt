use Rattle.json_values.specs.Seen.{json_value}
use Rattle.geojson_io.specs.Positions.{positions}
use Rattle.geojson_io.specs.Geometries.{some_points}
use Rattle.geojson_io.proofs.StraightLemmas.{list_shape}
use Rattle.geojson_io.proofs.reading.straight_shapes.points_shape.Goals as goal

pub returns : goal.returns
returns c =
    let h = rw c.in-Some.is at c.in_ok-points.ensures.read in
    record { read = (h.0, h.1, list_shape (positions c.args.places) some_points c.args.left.now c.in-Some.points c.read_list.new.left (json_value h.0) c.some_points.result h.2 c.some_points.ensures.exact) }
