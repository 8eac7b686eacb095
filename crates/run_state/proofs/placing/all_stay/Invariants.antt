use Rattle.std.proofs.Common.{◌≡◌, ◌++◌, length, map}
use Rattle.std.specs.Vec.Iter.{into_iter_items, into_iter_len}
use Rattle.run_state.specs.Targets.{staying}
use Rattle.run_state.proofs.placing.all_stay.Given as goal

abbrev pub invariant-loop-held : goal.invariant-loop-held
invariant-loop-held l = record {
  each : l.after.items ++ map staying (into_iter_items l.held-iterator) ≡ map staying l.fn.layers.items;
  left : into_iter_len l.held-iterator ≡ length (into_iter_items l.held-iterator);
}
