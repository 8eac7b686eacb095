use Rattle.std.proofs.Common.{◌≡◌, length}
use Rattle.std.specs.Prelude.{All}
use Rattle.std.specs.Vec.Iter.{into_iter_items, into_iter_len}
use Rattle.geojson_io.specs.Sound.{LayerIsSound}
use Rattle.run_beginning.specs.Drawing.{with_layers}
use Rattle.run_beginning.specs.DrawnLayers.{IsDrawn}
use Rattle.run_beginning.proofs.DrawnLemmas.{ZipsOn}
use Rattle.run_beginning.proofs.drawing.add_layers.Given as goal

abbrev pub invariant-loop-layer : goal.invariant-loop-layer
invariant-loop-layer l = record {
  added : with_layers (into_iter_items l.layer-iterator) l.drawing ≡ with_layers l.fn.layers.items l.initial.drawing;
  left : ZipsOn IsDrawn l.fn.layers.items (into_iter_items l.layer-iterator) l.left.items;
  sound : All LayerIsSound (into_iter_items l.layer-iterator);
  count : into_iter_len l.layer-iterator ≡ length (into_iter_items l.layer-iterator);
}
