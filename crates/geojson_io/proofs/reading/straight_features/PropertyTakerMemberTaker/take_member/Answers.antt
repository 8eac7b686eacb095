use Rattle.std.proofs.Common.{ap, ◌∙◌, List, ℕ}
use Rattle.json_values.specs.Table.{put_value}
use Rattle.geojson_io.specs.declared.reading.straight_features.PropertyTaker.{PropertyTaker}
use Rattle.geojson_io.proofs.StraightLemmas.{property_taken}
use Rattle.geojson_io.proofs.reading.straight_features.PropertyTakerMemberTaker.take_member.Goals as goal

pub returns : goal.returns
returns c = record {
  read =
      let old = c.args.self.now in
      let new : PropertyTaker = record { fields = c.put.new.self } in
      let j = c.in-Some.json in
      let value = c.of_owned.result in
      let h = rw c.in-Some.is at c.in_ok-json.ensures.read in
      λ e first. (j, h, property_taken first old new c.args.name.now j value c.of_owned.ensures.exact (c.in_ok-put.ensures.ok ∙ ap (λ (n : List ℕ). put_value old.fields n value) c.in_ok-name.ensures.copied));
}
