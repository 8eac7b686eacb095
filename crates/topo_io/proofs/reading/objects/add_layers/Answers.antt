use Rattle.std.proofs.Common.{◌∙◌, ◌++◌, List, All, ap, sym, subst}
use Rattle.std.proofs.lemmas.List.Elements.{All-append}
use Rattle.std.proofs.lemmas.Result.{on_ok_weaker}
use Rattle.geojson_io.specs.LayerContent.{LayerContent}
use Rattle.geojson_io.specs.Sound.{LayerIsSound}
use Rattle.geojson_io.proofs.SoundLemmas.{sound_layers}
use Rattle.topo_io.proofs.reading.objects.add_layers.Goals as goal

pub returns : goal.returns
returns c =
    let more : All LayerIsSound c.in_ok-more.more = subst (λ (ls : List LayerContent). All LayerIsSound ls) (sym c.in_ok-more.ensures.exact) (sound_layers c.args.name.now c.args.features.items c.requires.features) in
    record {
      exact = on_ok_weaker c.append_layers.result (λ e. e ∙ ap (λ (ls : List LayerContent). c.args.layers.now ++ ls) c.in_ok-more.ensures.exact) c.append_layers.ensures.added;
      sound = on_ok_weaker c.append_layers.result (λ e. subst (λ (ls : List LayerContent). All LayerIsSound ls) (sym e) (All-append LayerIsSound c.args.layers.now c.in_ok-more.more c.requires.layers more)) c.append_layers.ensures.added;
    }
