use Rattle.json_values.specs.Seen.{json_value}
use Rattle.geojson_io.specs.Positions.{line}
use Rattle.geojson_io.specs.Geometries.{several, some_lines}
use Rattle.geojson_io.proofs.StraightLemmas.{list_shape}
use Rattle.geojson_io.proofs.reading.straight_shapes.lines_shape.Goals as goal

pub returns : goal.returns
returns c =
    let h = rw c.in-Some.is at c.in_ok-lines.ensures.read in
    record { read = (h.0, h.1, list_shape (several (line c.args.places)) some_lines c.args.left.now c.in-Some.lines c.read_list.new.left (json_value h.0) c.some_lines.result h.2 c.some_lines.ensures.exact) }
