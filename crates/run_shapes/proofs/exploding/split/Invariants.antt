use Rattle.std.proofs.Common.{◌≡◌, ◌<◌, All, length, take}
use Rattle.std.specs.List.{flat_map, enumerate_from}
use Rattle.run_shapes.specs.Exploding.{repeated, split_shape}
use Rattle.run_shapes.proofs.exploding.split.Given as goal

abbrev pub invariant-loop-number : goal.invariant-loop-number
invariant-loop-number l = record {
  numbered : l.numbers ≡ flat_map repeated (enumerate_from 0 (take l.number l.shapes));
  shown : l.pieces.items ≡ flat_map split_shape (take l.number l.shapes);
  below : All (λ n. n < length l.shapes) l.numbers;
  each : length l.pieces.items ≡ length l.numbers;
}
