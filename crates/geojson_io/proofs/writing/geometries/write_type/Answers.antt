use Rattle.std.proofs.Common.{◌∙◌, ◌++◌, List, ℕ, ap, codes}
use Rattle.std.proofs.lemmas.List.{append_assoc}
use Rattle.std.proofs.lemmas.Result.{on_ok_weaker}
use Rattle.geojson_io.proofs.writing.geometries.write_type.Goals as goal

pub returns : goal.returns
returns c =
    let first : List ℕ = codes "{\"type\":\"" in
    let last : List ℕ = codes "\",\"coordinates\":" in
    record {
      written = on_ok_weaker c.extend-3.result (λ h.
          h ∙ ap (λ (w : List ℕ). w ++ last) (c.in_ok-extend-2.ensures.ok ∙ (λ i. c.in_ok-extend.ensures.ok i ++ c.as_bytes.ensures.value i))
          ∙ append_assoc (c.args.out.now ++ first) c.args.name.now last ∙ append_assoc c.args.out.now first (c.args.name.now ++ last)) c.extend-3.ensures.ok;
    }
