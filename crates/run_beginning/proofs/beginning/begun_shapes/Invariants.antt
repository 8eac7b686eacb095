use Rattle.std.proofs.Common.{◌≡◌, drop, length, map}
use Rattle.std.specs.List.{range_with_len}
use Rattle.std.specs.Prelude.{slice_index_or}
use Rattle.std.specs.Vec.Iter.{into_iter_items, into_iter_len}
use Rattle.run_beginning.proofs.beginning.begun_shapes.Given as goal

abbrev pub invariant-loop-number : goal.invariant-loop-number
invariant-loop-number g l = record {
  each : length l.begun.items ≡ l._number;
  begun : l.begun.items ≡ map (λ k. g.T.IntoShape.shape (slice_index_or (into_iter_items l.initial.features) k g.T.IntoShape.nothing)) (range_with_len 0 l._number);
  left : into_iter_items l.features ≡ drop l._number (into_iter_items l.initial.features);
  count : into_iter_len l.features ≡ length (into_iter_items l.features);
}
