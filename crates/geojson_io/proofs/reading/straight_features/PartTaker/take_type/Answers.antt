use Rattle.std.proofs.Common.{ap, ◌∙◌, ◌≡◌, true, refl, List, ℕ, codes}
use Rattle.json_values.specs.Json.{string}
use Rattle.json_values.specs.Seen.{json_value}
use Rattle.json_values.proofs.Putting.{same_bytes}
use Rattle.geojson_io.specs.declared.reading.straight_features.PartTaker.{PartTaker}
use Rattle.geojson_io.proofs.StraightLemmas.{not_false, part_type}
use Rattle.geojson_io.proofs.reading.straight_features.PartTaker.take_type.Goals as goal

pub returns : goal.returns
returns c =
    let old = c.args.self.now in
    let new : PartTaker = record { width = old.width; places = old.places; left = old.left; is_feature = true; fields = old.fields; shape = old.shape } in
    let h = c.in-Some.ensures.read c.args.depth in
    let named : c.in-Some.name.now ≡ codes "Feature" = same_bytes c.in-Some.name.now (codes "Feature") (not_false _ c.if-ne.ensures) in
    record { yes = λ e first. (h.0, h.1, part_type first old new (json_value h.0) (h.2 ∙ ap (λ (s : List ℕ). string s) named) refl refl refl refl) }
