use Rattle.std.proofs.Common.{List, [], ◌∷◌, ◌++◌, ap, ◌∙◌}
use Rattle.json_values.specs.Seen.{json_value}
use Rattle.plane_model.specs.Points.{GridPoint}
use Rattle.geojson_io.proofs.StraightLemmas.{point_shape}
use Rattle.geojson_io.proofs.reading.straight_shapes.point_shape.Goals as goal

pub returns : goal.returns
returns c =
    let p : GridPoint = c.in-Some.point in
    let h = c.in-Some.ensures.read in
    record { read = (h.0, h.1, point_shape c.args.places c.args.left.now p c.position.new.left (json_value h.0) c.push.new.self h.2 (c.in_ok-push.ensures.ok ∙ ap (λ (ps : List GridPoint). ps ++ p ∷ []) c.new-points.ensures.empty)) }
