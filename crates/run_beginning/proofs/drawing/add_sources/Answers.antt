use Rattle.std.proofs.Common.{◌∙◌, ap, map, refl, rules, subst, sym, List}
use Rattle.std.specs.Prelude.{All}
use Rattle.std.specs.List.{AllZip}
use Rattle.std.specs.Vec.Iter.{into_iter_items}
use Rattle.std.proofs.lemmas.List.{nil_from_length}
use Rattle.std.proofs.lemmas.List.Elements.{All-tail}
use Rattle.lists.specs.Lists.{joined_up}
use Rattle.geojson_io.specs.LayerContent.{LayerContent}
use Rattle.geojson_io.specs.Sound.{LayerIsSound}
use Rattle.run_sources.specs.declared.sources.ReadSource.{ReadSource}
use Rattle.run_beginning.specs.Drawing.{with_layers}
use Rattle.run_beginning.specs.DrawnLayers.{IsDrawn, IsDrawnSource}
use Rattle.run_beginning.proofs.DrawingLemmas.{layers_apart}
use Rattle.run_beginning.proofs.DrawnLemmas.{zips_end, zips_more}
use Rattle.run_beginning.proofs.drawing.add_sources.Goals as goal

abbrev is_sound : ReadSource → Type 0
is_sound read = All LayerIsSound read.layers

abbrev layers_of : ReadSource → List LayerContent
layers_of read = read.layers

pub loop-source-preserved : goal.loop-source-preserved
loop-source-preserved c =
    let steps = c.in-Some.ensures.steps in
    let source = c.in-Some.source in
    let rest = into_iter_items c.next.new.self in
    let before = c.loop-source.drawing in
    let so_far = c.loop-source.invariant in
    let given = c.into_vec.ensures.all in
    let made = c.in_ok-layers.ensures in
    record {
      added = ap (with_layers (joined_up (map layers_of rest))) (made.added ∙ ap (λ (layers : List LayerContent). with_layers layers before) given)
          ∙ layers_apart before source.layers (joined_up (map layers_of rest))
          ∙ ap (λ (reads : List ReadSource). with_layers (joined_up (map layers_of reads)) before) (sym steps.0)
          ∙ so_far.added;
      left = zips_more IsDrawnSource c.args.sources.items (into_iter_items c.loop-source.source-iterator) rest source c.loop-source.left.items c.push.new.self.items (record { owner = source.owner; layers = c.in_ok-layers.layers }) steps.0 c.in_ok-push.ensures.items
          (refl, subst (λ (layers : List LayerContent). AllZip IsDrawn layers c.in_ok-layers.layers.items) given made.left) so_far.left;
      sound = All-tail is_sound source rest (subst (All is_sound) steps.0 so_far.sound);
      count = search rules;
    }

pub returns-clause-left : goal.returns-clause-left
returns-clause-left c =
    let items = into_iter_items c.loop-source.source-iterator in
    zips_end IsDrawnSource c.args.sources.items items c.loop-source.left.items (nil_from_length items (sym c.loop-source.invariant.count ∙ c.in-None.ensures.steps.0)) c.loop-source.invariant.left
