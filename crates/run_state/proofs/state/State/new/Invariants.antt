use Rattle.std.proofs.Common.{◌≡◌, ◌++◌, length}
use Rattle.std.specs.Vec.Iter.{into_iter_items, into_iter_len}
use Rattle.run_state.specs.Targets.{first_layers}
use Rattle.run_state.proofs.state.State.new.Given as goal

abbrev pub invariant-loop-layer : goal.invariant-loop-layer
invariant-loop-layer l = record {
  held : l.held.items ++ first_layers (into_iter_items l.layer-iterator) ≡ first_layers l.fn.layers.items;
  left : into_iter_len l.layer-iterator ≡ length (into_iter_items l.layer-iterator);
}
