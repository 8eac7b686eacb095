use Rattle.std.proofs.Common.{◌≡◌, ◌++◌, length, map}
use Rattle.std.specs.List.{flat_map}
use Rattle.std.specs.Vec.Iter.{into_iter_items, into_iter_len}
use Rattle.run_state.specs.Targets.{after_all, put_out}
use Rattle.run_state.proofs.placing.after_all.Given as goal

abbrev pub invariant-loop-output : goal.invariant-loop-output
invariant-loop-output l = record {
  placed : l.after.items ++ flat_map (map put_out) (map (λ out. out.items) (into_iter_items l.output-iterator)) ≡ after_all l.fn.layers.items (map (λ out. out.items) l.fn.outputs.items);
  left : into_iter_len l.output-iterator ≡ length (into_iter_items l.output-iterator);
}
