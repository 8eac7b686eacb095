use Rattle.std.proofs.Common.{◌∙◌, ◌++◌, List, ℕ, ap, append_assoc, codes}
use Rattle.std.proofs.lemmas.Result.{on_ok_weaker}
use Rattle.geojson_io.specs.Texts.{before_item}
use Rattle.geojson_io.proofs.writing.start_feature.Goals as goal

pub returns : goal.returns
returns c =
    let first : List ℕ = codes "{\"type\":\"Feature\",\"geometry\":" in
    record {
      written =
          on_ok_weaker c.extend.result (λ h. h ∙ ap (λ (w : List ℕ). w ++ first) c.in_ok-write_break.ensures.written ∙ append_assoc c.args.out.now (before_item (codes ",\n") c.args.i) first) c.extend.ensures.ok;
    }
