use Rattle.std.proofs.Common.{◌≡◌, ◌++◌, length}
use Rattle.std.specs.Vec.Iter.{into_iter_items, into_iter_len}
use Rattle.run_beginning.proofs.beginning.put_layers.Given as goal

abbrev pub invariant-loop-layer : goal.invariant-loop-layer
invariant-loop-layer l = record {
  put : l.layers.items ++ into_iter_items l.layer-iterator ≡ l.fn.layers.items ++ l.fn.more.items;
  left : into_iter_len l.layer-iterator ≡ length (into_iter_items l.layer-iterator);
}
