use Rattle.std.proofs.Common.{◌≡◌, ◌<◌, All, length, take}
use Rattle.run_plane.specs.Shapes.{with_geometry}
use Rattle.run_state.proofs.features.with_geometry.Given as goal

abbrev pub invariant-loop-number : goal.invariant-loop-number
invariant-loop-number l = record {
  kept : l.kept ≡ with_geometry l.shapes (take l.number-index l.numbers);
  below : All (λ n. n < length l.shapes) l.kept;
}
