use Rattle.std.proofs.Common.{◌≡◌, length, List}
use Rattle.std.specs.List.{AllZip}
use Rattle.std.specs.Vec.Iter.{into_iter_items, into_iter_len}
use Rattle.plane_model.specs.Points.{Path}
use Rattle.geojson_io.specs.LayerContent.{LayerContent}
use Rattle.run_beginning.specs.BegunLayers.{Left}
use Rattle.run_beginning.specs.DrawnLayers.{IsDrawn}
use Rattle.run_beginning.specs.NextFeatures.{AreCounted, IsLeft}
use Rattle.run_beginning.proofs.BegunLemmas.{LayersGo}
use Rattle.run_beginning.proofs.beginning.begun_layers.Given as goal

abbrev pub invariant-loop-layer : goal.invariant-loop-layer
invariant-loop-layer l = record {
  go : (arcs : List Path) (left : Left) (given : List LayerContent) → IsLeft arcs left l.initial.next → AllZip IsDrawn given l.fn.layers.items → LayersGo arcs left given l.begun.items l.next (into_iter_items l.layer-iterator);
  counted : AreCounted l.next;
  layers : into_iter_len l.layer-iterator ≡ length (into_iter_items l.layer-iterator);
}
