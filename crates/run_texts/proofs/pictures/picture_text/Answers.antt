use Rattle.std.proofs.Common.{◌∙◌, List, ap, length, map, refl, subst, sym}
use Rattle.std.specs.List.{AllZip}
use Rattle.std.proofs.lemmas.Slice.Zip.{AllZip-long}
use Rattle.geojson_io.specs.LayerContent.{LayerContent}
use Rattle.geojson_io.specs.Texts.{key_text}
use Rattle.geojson_io.proofs.TextLemmas.{geojson_written}
use Rattle.run_plane.specs.declared.layer.Shape.{Shape}
use Rattle.run_plane.specs.OnPlane.{AreOn}
use Rattle.run_texts.specs.Pictures.{IsDrawn}
use Rattle.run_texts.proofs.pictures.picture_text.Goals as goal

pub write_shapes-requires-clause-count : goal.write_shapes-requires-clause-count
write_shapes-requires-clause-count c =
    ap length c.deref.ensures.value ∙ c.args.layer.now.each ∙ sym (ap length (c.as_slice-rows.ensures.all ∙ c.rows.ensures.rows))

pub write_shapes-requires-clause-on : goal.write_shapes-requires-clause-on
write_shapes-requires-clause-on c = subst (AreOn c.args.plane.now) (sym c.deref.ensures.value) c.requires.on

pub returns : goal.returns
returns c =
    let layer = c.args.layer.now in
    let plane = c.args.plane.now in
    let text = c.in_ok-write_shapes.ensures.written in
    let picture : LayerContent = record { name = layer.name; kind = layer.kind; table = layer.table; shapes = text.drawn } in
    let rows = c.as_slice-rows.ensures.all ∙ c.rows.ensures.rows in
    let names = c.as_slice.ensures.all ∙ c.names.ensures.names in
    let many = AllZip-long (IsDrawn plane) c.deref.result.now text.drawn text.each ∙ ap length c.deref.ensures.value ∙ layer.each ∙ sym (ap length rows) in
    record {
      says = record {
        picture = picture;
        shows = record { name = refl; kind = refl; table = refl; shapes = subst (λ (shapes : List Shape). AllZip (IsDrawn plane) shapes text.drawn) c.deref.ensures.value text.each };
        is = geojson_written c.args.places picture c.as_slice-2.result.now c.as_slice-rows.result.now text.drawn c.in_ok-out.out c.write_shapes.new.out c.end_collection.new.out
            (c.as_slice-2.ensures.value ∙ c.in_ok-keys.ensures.exact ∙ ap (map key_text) names) rows refl c.in_ok-out.ensures.exact text.is (c.in_ok-end_collection.ensures.written text.drawn many);
      };
    }
