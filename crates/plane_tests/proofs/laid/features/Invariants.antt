use Rattle.std.specs.Prelude.{◌≡◌, All, length}
use Rattle.face_sets.specs.Sets.{IsSetOf}
use Rattle.plane_tests.proofs.laid.features.Given as goal

abbrev pub invariant-loop-number : goal.invariant-loop-number
invariant-loop-number l = record {
  each : length l.sets ≡ l.number;
  inner : All (IsSetOf l.laid.faces) l.sets;
}
