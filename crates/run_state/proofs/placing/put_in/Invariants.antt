use Rattle.std.proofs.Common.{◌≡◌, ◌++◌, length, map}
use Rattle.std.specs.Vec.Iter.{into_iter_items, into_iter_len}
use Rattle.run_state.specs.Targets.{put_out}
use Rattle.run_state.proofs.placing.put_in.Given as goal

abbrev pub invariant-loop-layer : goal.invariant-loop-layer
invariant-loop-layer l = record {
  put : l.place.items ++ map put_out (into_iter_items l.layer-iterator) ≡ l.fn.place.items ++ map put_out l.fn.outputs.items;
  left : into_iter_len l.layer-iterator ≡ length (into_iter_items l.layer-iterator);
}
