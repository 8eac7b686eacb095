use Rattle.std.proofs.Common.{arith}
use Rattle.json_values.specs.Seen.{json_value}
use Rattle.geojson_io.proofs.StraightLemmas.{line_read}
use Rattle.geojson_io.proofs.reading.straight_shapes.LinesReadStraight.read_straight.Goals as goal

pub returns : goal.returns
returns c =
    let h = rw c.in-Some.is at c.in_ok-path.ensures.read in
    record { read = (h.0, h.1, line_read c.args.places c.args.left.now c.in-Some.path c.read_list.new.left (json_value h.0) h.2 (omega (arith, c.len.ensures.count, c.if-len-lt2.false))) }
