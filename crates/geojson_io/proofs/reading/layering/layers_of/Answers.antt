use Rattle.std.proofs.Common.{rules, ◌≡◌, ◌≤◌, ap, ◌∙◌, sym, subst, length, List}
use Rattle.std.proofs.lemmas.Result.{IfOk-weaker}
use Rattle.grid_base.specs.declared.kinds.Kind.{Kind}
use Rattle.geojson_io.specs.Layers.{kinds_of}
use Rattle.geojson_io.proofs.KindLemmas.{several_layers}
use Rattle.geojson_io.proofs.reading.layering.layers_of.Goals as goal

pub returns : goal.returns
returns c =
    let there : c.as_slice-2.result.now ≡ c.as_slice-in-len1-up.result.now = c.as_slice-2.ensures.value ∙ sym c.as_slice-in-len1-up.ensures.value in
    let long : 2 ≤ length c.as_slice-in-len1-up.result.now = subst (λ (ks : List Kind). 2 ≤ length ks) there c.in-len1-up.len_at_least in
    let kinds : c.as_slice-in-len1-up.result.now ≡ kinds_of c.args.features.items = c.as_slice-in-len1-up.ensures.value ∙ c.in_ok-kinds.ensures.exact ∙ ap kinds_of c.as_slice.ensures.value in
    record { exact = IfOk-weaker c.split_layers.result _ _ (λ layers e. e ∙ several_layers c.args.name.now _ c.as_slice-in-len1-up.result.now c.args.features.items kinds long (search (rules, there))) c.split_layers.ensures.exact }
