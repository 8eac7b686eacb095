use Rattle.std.proofs.Common.{◌∙◌, ap, rules, subst, sym, List, [], ◌∷◌}
use Rattle.std.specs.Prelude.{All}
use Rattle.std.specs.Vec.Iter.{into_iter_items}
use Rattle.std.proofs.lemmas.List.{nil_from_length}
use Rattle.std.proofs.lemmas.List.Elements.{All-tail}
use Rattle.geojson_io.specs.LayerContent.{LayerContent}
use Rattle.geojson_io.specs.Sound.{LayerIsSound}
use Rattle.run_beginning.specs.Drawing.{with_layers}
use Rattle.run_beginning.specs.DrawnLayers.{IsDrawn}
use Rattle.run_beginning.proofs.DrawingLemmas.{layers_apart}
use Rattle.run_beginning.proofs.DrawnLemmas.{zips_end, zips_more}
use Rattle.run_beginning.proofs.drawing.add_layers.Goals as goal

pub loop-layer-preserved : goal.loop-layer-preserved
loop-layer-preserved c =
    let steps = c.in-Some.ensures.steps in
    let layer = c.in-Some.layer in
    let rest = into_iter_items c.next.new.self in
    let before = c.loop-layer.drawing in
    let so_far = c.loop-layer.invariant in
    record {
      added = ap (with_layers rest) c.in_ok-add_layer.ensures.added ∙ layers_apart before (layer ∷ []) rest ∙ ap (λ (layers : List LayerContent). with_layers layers before) (sym steps.0) ∙ so_far.added;
      left = zips_more IsDrawn c.args.layers.items (into_iter_items c.loop-layer.layer-iterator) rest layer c.loop-layer.left.items c.push.new.self.items c.in_ok-add_layer.field-0 steps.0 c.in_ok-push.ensures.items c.in_ok-add_layer.ensures.left so_far.left;
      sound = All-tail LayerIsSound layer rest (subst (All LayerIsSound) steps.0 so_far.sound);
      count = search rules;
    }

pub returns-clause-left : goal.returns-clause-left
returns-clause-left c =
    let items = into_iter_items c.loop-layer.layer-iterator in
    zips_end IsDrawn c.args.layers.items items c.loop-layer.left.items (nil_from_length items (sym c.loop-layer.invariant.count ∙ c.in-None.ensures.steps.0)) c.loop-layer.invariant.left
