use Rattle.std.proofs.Common.{rules, ◌≡◌, ◌∙◌, ap, List, filter}
use Rattle.std.proofs.lemmas.Fn.{filter_same}
use Rattle.std.proofs.lemmas.Result.{IfOk-weaker}
use Rattle.plane_model.specs.Drawing.{Polygon}
use Rattle.geojson_io.specs.Geometries.{has_rings}
use Rattle.geojson_io.proofs.reading.geometries.with_rings.Goals as goal

pub returns : goal.returns
returns c =
    let left = filter_same _ has_rings _ (λ x b f' k. search rules) _ _ c.retain.ensures.filtered in
    record { exact = IfOk-weaker c.from_vec.result (λ ps. ps ≡ c.retain.new.self.items) (λ ps. ps ≡ filter has_rings c.args.polygons) (λ ps same. same ∙ left ∙ ap (λ (ps : List Polygon). filter has_rings ps) c.into_vec-left.ensures.all) c.from_vec.ensures.same }
