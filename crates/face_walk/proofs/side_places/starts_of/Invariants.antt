use Rattle.std.proofs.Common.{◌≡◌, ℕ, ◌<◌, length, get_or}
use Rattle.face_walk.specs.Sides.{IsStartOf}
use Rattle.face_walk.proofs.side_places.starts_of.Given as goal

abbrev pub invariant-loop-f : goal.invariant-loop-f
invariant-loop-f l = record {
  number : length l.starts.items ≡ l.f;
  each : (k : ℕ) → k < l.f → IsStartOf l.faces k (get_or l.starts.items k 0);
}
