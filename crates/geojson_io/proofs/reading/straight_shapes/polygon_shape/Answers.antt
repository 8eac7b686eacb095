use Rattle.std.proofs.Common.{◌≡◌, List, [], ◌∷◌, ◌++◌, ap, ◌∙◌, filter}
use Rattle.json_values.specs.Seen.{json_value}
use Rattle.plane_model.specs.Drawing.{Polygon}
use Rattle.geojson_io.specs.Geometries.{has_rings, one_polygon, some_polygons}
use Rattle.geojson_io.proofs.StraightLemmas.{list_shape, polygon_read}
use Rattle.geojson_io.proofs.reading.straight_shapes.polygon_shape.Goals as goal

pub returns : goal.returns
returns c =
    let places = c.args.places in
    let left = c.args.left.now in
    let after = c.read_straight.new.left in
    let polygon : Polygon = c.in-Some.polygon in
    let kept : List Polygon = c.in_ok-kept.kept in
    let h = rw c.in-Some.is at c.in_ok-polygon.ensures.read in
    let alone = c.in_ok-push.ensures.ok ∙ ap (λ (ps : List Polygon). ps ++ polygon ∷ []) c.new-polygons.ensures.empty in
    let is : kept ≡ filter has_rings (polygon ∷ []) = c.in_ok-kept.ensures.exact ∙ ap (λ (ps : List Polygon). filter has_rings ps) alone in
    record { read = (h.0, h.1, list_shape (one_polygon places) some_polygons left kept after (json_value h.0) c.some_polygons.result (polygon_read places left polygon after (json_value h.0) kept h.2 is) c.some_polygons.ensures.exact) }
