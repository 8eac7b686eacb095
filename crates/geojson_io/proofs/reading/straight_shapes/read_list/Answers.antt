use Rattle.json_values.specs.Seen.{json_value}
use Rattle.geojson_io.proofs.StraightLemmas.{list_read}
use Rattle.geojson_io.proofs.reading.straight_shapes.read_list.Goals as goal

pub returns : goal.returns
returns g c =
    let now = c.items_by.new.taker in
    let h = c.in_ok-items_by.ensures.read c.if-not-branch.false (record { places = c.args.places; left = c.args.left.now; list = c.new.result }) in
    record { read = (h.0, h.1, list_read g.R.ReadItem.read c.args.places c.args.left.now now.places c.new.result now.list now.left (json_value h.0) c.new.ensures.empty h.2) }
