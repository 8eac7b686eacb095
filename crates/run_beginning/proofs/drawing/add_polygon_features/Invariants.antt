use Rattle.std.proofs.Common.{◌≡◌, length}
use Rattle.std.specs.Prelude.{All}
use Rattle.std.specs.Vec.Iter.{into_iter_items, into_iter_len}
use Rattle.geojson_io.specs.Sound.{ShapeIsSound}
use Rattle.run_beginning.proofs.DrawingLemmas.{with_polygon_features}
use Rattle.run_beginning.proofs.drawing.add_polygon_features.Given as goal

abbrev pub invariant-loop-shape : goal.invariant-loop-shape
invariant-loop-shape l = record {
  added : with_polygon_features (into_iter_items l.shape-iterator) l.drawing ≡ with_polygon_features l.fn.shapes.items l.initial.drawing;
  sound : All ShapeIsSound (into_iter_items l.shape-iterator);
  count : into_iter_len l.shape-iterator ≡ length (into_iter_items l.shape-iterator);
}
