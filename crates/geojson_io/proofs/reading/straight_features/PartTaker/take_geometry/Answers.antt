use Rattle.std.proofs.Common.{sym, ◌∙◌, ◌≡◌, Some, None, refl}
use Rattle.json_values.specs.Seen.{json_value}
use Rattle.geojson_io.specs.declared.reading.straight_features.PartTaker.{PartTaker}
use Rattle.geojson_io.proofs.StraightLemmas.{nothing_there, part_geometry}
use Rattle.geojson_io.proofs.reading.straight_features.PartTaker.take_geometry.Goals as goal

pub returns-in-Some : goal.returns-in-Some
returns-in-Some c =
    let old = c.args.self.now in
    let new : PartTaker = record { width = old.width; places = old.places; left = c.straight_geometry.new.left; is_feature = old.is_feature; fields = old.fields; shape = Some c.in-Some.shape } in
    let h = rw c.in-Some.is at c.in_ok-straight_geometry.ensures.read in
    let no_shape : old.shape ≡ None = nothing_there old.shape (sym c.is_some.ensures ∙ c.if-is_some.false) in
    record { read = λ e first. (h.0, h.1, part_geometry first old new c.in-Some.shape (json_value h.0) no_shape h.2 refl refl refl refl) }
