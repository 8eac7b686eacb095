use Rattle.std.proofs.Common.{◌≡◌, ◌+◌, ◌++◌, length}
use Rattle.std.specs.Vec.Iter.{into_iter_items, into_iter_len}
use Rattle.run_state.specs.FaceSets.{face_shapes}
use Rattle.run_state.proofs.layer_sets.shapes_of.Given as goal

abbrev pub invariant-loop-set : goal.invariant-loop-set
invariant-loop-set l = record {
  exact : l.shapes.items ++ face_shapes (into_iter_items l.set-iterator) ≡ face_shapes l.fn.sets.items;
  count : length l.shapes.items + length (into_iter_items l.set-iterator) ≡ length l.fn.sets.items;
  left : into_iter_len l.set-iterator ≡ length (into_iter_items l.set-iterator);
}
