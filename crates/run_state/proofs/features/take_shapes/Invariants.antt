use Rattle.std.proofs.Common.{◌≡◌, length, map, take}
use Rattle.run_plane.specs.Shapes.{shape_at}
use Rattle.run_state.proofs.features.take_shapes.Given as goal

abbrev pub invariant-loop-number : goal.invariant-loop-number
invariant-loop-number l = record {
  taken : l.taken.items ≡ map (shape_at l.shapes) (take l.number-index l.numbers);
  count : length l.taken.items ≡ l.number-index;
}
