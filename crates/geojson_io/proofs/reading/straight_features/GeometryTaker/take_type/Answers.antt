use Rattle.std.proofs.Common.{sym, ◌∙◌, ◌≡◌, Some, None, refl}
use Rattle.json_values.specs.Seen.{json_value}
use Rattle.geojson_io.specs.declared.reading.straight_features.GeometryTaker.{GeometryTaker}
use Rattle.geojson_io.proofs.StraightLemmas.{nothing_there, type_taken}
use Rattle.geojson_io.proofs.reading.straight_features.GeometryTaker.take_type.Goals as goal

pub returns : goal.returns
returns c =
    let old = c.args.self.now in
    let new : GeometryTaker = record { places = old.places; left = old.left; kind = Some c.in-Some-named.kind; shape = old.shape } in
    let h = c.in-Some.ensures.read c.args.depth in
    let no_kind : old.kind ≡ None = nothing_there old.kind (sym c.is_some.ensures ∙ c.if-is_some.false) in
    let no_shape : old.shape ≡ None = nothing_there old.shape (sym c.is_some-else-is_some.ensures ∙ c.if-is_some-2.false) in
    record { yes = λ e first. (h.0, h.1, type_taken first old new c.in-Some.name.now c.in-Some-named.kind (json_value h.0) no_kind no_shape h.2 (sym (c.in-Some-named.ensures.exact)) refl refl refl no_shape) }
