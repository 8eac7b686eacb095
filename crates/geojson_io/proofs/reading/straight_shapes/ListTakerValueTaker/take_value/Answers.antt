use Rattle.json_values.specs.Seen.{json_value}
use Rattle.geojson_io.proofs.StraightLemmas.{one_taken}
use Rattle.geojson_io.proofs.reading.straight_shapes.ListTakerValueTaker.take_value.Goals as goal

pub returns : goal.returns
returns g c =
    let old = c.args.self.now in
    let h = rw c.in-Some.is at c.in_ok-item.ensures.read in
    record { read = λ e first. (h.0, h.1, one_taken g.R.ReadItem.read first.places first.left old.places old.list old.left c.in-Some.item c.push.new.self c.read_straight.new.left (json_value h.0) h.2 c.in_ok-push.ensures.ok) }
