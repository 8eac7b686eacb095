use Rattle.std.proofs.Common.{◌≡◌, length, take}
use Rattle.run_state.specs.FaceSets.{sets_in}
use Rattle.run_state.proofs.layer_sets.sets_of.Given as goal

abbrev pub invariant-loop-shape : goal.invariant-loop-shape
invariant-loop-shape l = record {
  exact : l.sets ≡ sets_in (take l.shape-index l.shapes);
  count : length l.sets ≡ l.shape-index;
}
