use Rattle.std.proofs.Common.{◌≡◌, length, map}
use Rattle.std.specs.Prelude.{All}
use Rattle.std.specs.Vec.Iter.{into_iter_items, into_iter_len}
use Rattle.lists.specs.Lists.{joined_up}
use Rattle.geojson_io.specs.Sound.{LayerIsSound}
use Rattle.run_beginning.specs.Drawing.{with_layers}
use Rattle.run_beginning.specs.DrawnLayers.{IsDrawnSource}
use Rattle.run_beginning.proofs.DrawnLemmas.{ZipsOn}
use Rattle.run_sources.specs.declared.sources.ReadSource.{ReadSource}
use Rattle.run_beginning.proofs.drawing.add_sources.Given as goal

abbrev pub invariant-loop-source : goal.invariant-loop-source
invariant-loop-source l = record {
  added : with_layers (joined_up (map (λ (read : ReadSource). read.layers) (into_iter_items l.source-iterator))) l.drawing
      ≡ with_layers (joined_up (map (λ (read : ReadSource). read.layers) l.fn.sources.items)) l.initial.drawing;
  left : ZipsOn IsDrawnSource l.fn.sources.items (into_iter_items l.source-iterator) l.left.items;
  sound : All (λ (read : ReadSource). All LayerIsSound read.layers) (into_iter_items l.source-iterator);
  count : into_iter_len l.source-iterator ≡ length (into_iter_items l.source-iterator);
}
