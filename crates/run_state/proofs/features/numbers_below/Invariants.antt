use Rattle.std.proofs.Common.{◌≡◌, ◌<◌, All, length}
use Rattle.std.specs.List.{range_with_len}
use Rattle.run_state.proofs.features.numbers_below.Given as goal

abbrev pub invariant-loop-number : goal.invariant-loop-number
invariant-loop-number l = record {
  all : l.numbers ≡ range_with_len 0 l.number;
  below : All (λ n. n < l.number) l.numbers;
  each : length l.numbers ≡ l.number;
}
