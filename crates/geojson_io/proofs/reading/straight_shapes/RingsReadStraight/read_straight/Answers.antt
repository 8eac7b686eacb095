use Rattle.std.proofs.Common.{arith, sym}
use Rattle.json_values.specs.Seen.{json_value}
use Rattle.geojson_io.proofs.StraightLemmas.{ring_read}
use Rattle.geojson_io.proofs.reading.straight_shapes.RingsReadStraight.read_straight.Goals as goal

pub returns : goal.returns
returns c =
    let h = rw c.in-Some.is at c.in_ok-path.ensures.read in
    record { read = (h.0, h.1, ring_read c.args.places c.args.left.now c.in-Some.path c.read_list.new.left (json_value h.0) h.2 (omega (arith, c.len.ensures.count, c.if-len-lt4.false)) (sym (c.if-not-is_closed.ensures.exact))) }
