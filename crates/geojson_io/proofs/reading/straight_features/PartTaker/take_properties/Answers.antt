use Rattle.std.proofs.Common.{Some, refl}
use Rattle.json_values.specs.Seen.{json_value}
use Rattle.geojson_io.specs.declared.reading.straight_features.PartTaker.{PartTaker}
use Rattle.geojson_io.proofs.StraightLemmas.{part_properties}
use Rattle.geojson_io.proofs.reading.straight_features.PartTaker.take_properties.Goals as goal

pub returns-in-Some : goal.returns-in-Some
returns-in-Some c =
    let old = c.args.self.now in
    let ps = c.in-Some.fields in
    let new : PartTaker = record { width = old.width; places = old.places; left = old.left; is_feature = old.is_feature; fields = Some ps; shape = old.shape } in
    let h = rw c.in-Some.is at c.in_ok-straight_properties.ensures.read in
    record { read = λ e first. (h.0, h.1, part_properties first old new ps (json_value h.0) h.2 refl refl refl refl refl) }
