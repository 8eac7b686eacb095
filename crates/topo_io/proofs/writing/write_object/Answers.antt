use Rattle.std.proofs.Common.{◌≡◌, ◌∙◌, ◌++◌, ap, map, codes}
use Rattle.std.proofs.lemmas.Result.{on_ok_weaker}
use Rattle.json_values.specs.Text.{string_text}
use Rattle.geojson_io.specs.Texts.{key_text}
use Rattle.topo_io.specs.Texts.{geometries_text}
use Rattle.topo_io.proofs.TextLemmas.{four}
use Rattle.topo_io.proofs.writing.write_object.Goals as goal

pub returns : goal.returns
returns c =
    let l = c.args.layer.now in
    let numbers = c.args.numbering.now.numbers.items in
    let keys : c.as_slice-2.result.now ≡ map key_text l.table.names = c.as_slice-2.ensures.value ∙ c.in_ok-keys.ensures.exact ∙ ap (map key_text) (c.as_slice.ensures.all ∙ c.names.ensures.names ∙ (λ i. (c.layer.view_is i).table.names)) in
    let rows : c.as_slice-rows.result.now ≡ l.table.rows = c.as_slice-rows.ensures.all ∙ c.rows.ensures.rows ∙ (λ i. (c.layer.view_is i).table.rows) in
    let shapes : c.as_slice-3.result.now ≡ l.shapes = c.as_slice-3.ensures.all ∙ (λ i. (c.layer.view_is i).shapes) in
    record {
      written = on_ok_weaker c.extend-2.result (λ h.
          four c.args.out.now (string_text l.name) (codes ":{\"type\":\"GeometryCollection\",\"geometries\":[") (geometries_text numbers (map key_text l.table.names) l.table.rows l.shapes) (codes "]}")
          c.print_string.new.out c.extend.new.self c.write_geometries.new.out c.extend-2.new.self
          (c.in_ok-print_string.ensures.ok ∙ (λ i. c.args.out.now ++ string_text (c.layer.view_is i).name)) c.in_ok-extend.ensures.ok
          (c.in_ok-write_geometries.ensures.written ∙ (λ i. c.extend.new.self ++ geometries_text numbers (keys i) (rows i) (shapes i))) h) c.extend-2.ensures.ok;
    }
