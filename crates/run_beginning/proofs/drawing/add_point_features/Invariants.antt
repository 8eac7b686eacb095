use Rattle.std.proofs.Common.{◌≡◌, ◌++◌, length, map}
use Rattle.std.specs.Vec.Iter.{into_iter_items, into_iter_len}
use Rattle.run_beginning.specs.BegunLayers.{point_shape}
use Rattle.run_beginning.proofs.DrawingLemmas.{with_point_features}
use Rattle.run_beginning.proofs.drawing.add_point_features.Given as goal

abbrev pub invariant-loop-shape : goal.invariant-loop-shape
invariant-loop-shape l = record {
  added : with_point_features (into_iter_items l.shape-iterator) l.drawing ≡ with_point_features l.fn.shapes.items l.initial.drawing;
  kept : l.kept.items ++ map point_shape (into_iter_items l.shape-iterator) ≡ map point_shape l.fn.shapes.items;
  count : into_iter_len l.shape-iterator ≡ length (into_iter_items l.shape-iterator);
}
