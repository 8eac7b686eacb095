use Rattle.std.proofs.Common.{◌∙◌, ap, arith, map}
use Rattle.geojson_io.specs.Texts.{key_text}
use Rattle.geojson_io.proofs.TextLemmas.{geojson_written}
use Rattle.geojson_io.proofs.writing.write_geojson.Goals as goal

pub returns : goal.returns
returns c = record {
  exact =
      geojson_written c.args.places c.args.layer.now c.as_slice-2.result.now c.as_slice-rows.result.now c.as_slice-shapes.result.now
      c.in_ok-out.out c.write_features.new.out c.end_collection.new.out
      (c.as_slice-2.ensures.value ∙ c.in_ok-keys.ensures.exact ∙ ap (map key_text) (c.as_slice.ensures.all ∙ c.names.ensures.names ∙ (λ i. (c.layer.view_is i).table.names)))
      (c.as_slice-rows.ensures.all ∙ c.rows.ensures.rows ∙ (λ i. (c.layer.view_is i).table.rows))
      (c.as_slice-shapes.ensures.all ∙ (λ i. (c.layer.view_is i).shapes))
      c.in_ok-out.ensures.exact c.in_ok-write_features.ensures.written (c.in_ok-end_collection.ensures.written c.as_slice-shapes.result.now (omega arith));
}
