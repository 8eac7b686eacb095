use Rattle.std.proofs.Common.{rules, FitsSigned, to_z-of_z}
use Rattle.std.specs.Int.{w64}
use Rattle.json_values.specs.Seen.{json_value}
use Rattle.geojson_io.proofs.StraightLemmas.{position_read}
use Rattle.geojson_io.proofs.reading.straight_shapes.position.Goals as goal

pub returns : goal.returns
returns c =
    let h = c.in_ok-x.ensures.read in
    let x_fits : FitsSigned w64 c.in_ok-x.x = search rules in
    let y_fits : FitsSigned w64 c.in_ok-x.y = search rules in
    let is = simp to_z-of_z at c.in_ok-point.ensures.exact in
    record { read = (h.0, h.1, position_read c.args.places c.args.left.now c.in_ok-x.x c.in_ok-x.y c.in_ok-point.point (json_value h.0) c.if-left-eq0.false h.2 is) }
