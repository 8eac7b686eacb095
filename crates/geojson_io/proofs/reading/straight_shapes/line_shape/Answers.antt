use Rattle.std.proofs.Common.{List, [], ◌∷◌, ◌++◌, ap, ◌∙◌}
use Rattle.json_values.specs.Seen.{json_value}
use Rattle.plane_model.specs.Points.{Path}
use Rattle.geojson_io.proofs.StraightLemmas.{line_shape}
use Rattle.geojson_io.proofs.reading.straight_shapes.line_shape.Goals as goal

pub returns : goal.returns
returns c =
    let path : Path = c.in-Some.path in
    let h = rw c.in-Some.is at c.in_ok-path.ensures.read in
    record { read = (h.0, h.1, line_shape c.args.places c.args.left.now path c.read_straight.new.left (json_value h.0) c.push.new.self h.2 (c.in_ok-push.ensures.ok ∙ ap (λ (ls : List Path). ls ++ path ∷ []) c.new-lines.ensures.empty)) }
