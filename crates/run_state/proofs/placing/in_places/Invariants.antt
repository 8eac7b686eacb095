use Rattle.std.proofs.Common.{◌≡◌, ◌++◌, length, map}
use Rattle.std.specs.Vec.Iter.{into_iter_items, into_iter_len}
use Rattle.run_state.specs.Targets.{in_places}
use Rattle.run_state.proofs.placing.in_places.Given as goal

abbrev pub invariant-loop-held : goal.invariant-loop-held
invariant-loop-held l = record {
  placed : l.after.items ++ in_places l.target (into_iter_items l.held-iterator) (map (λ out. out.items) (into_iter_items l.coming)) ≡ in_places l.target l.fn.layers.items (map (λ out. out.items) l.fn.outputs.items);
  held : into_iter_len l.held-iterator ≡ length (into_iter_items l.held-iterator);
  coming : into_iter_len l.coming ≡ length (into_iter_items l.coming);
}
