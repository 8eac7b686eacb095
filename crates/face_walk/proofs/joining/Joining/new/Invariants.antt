use Rattle.std.proofs.Common.{◌≡◌, ◌<◌, ℕ, length, get_or}
use Rattle.face_walk.specs.Joining.{GoesDown}
use Rattle.face_walk.proofs.joining.Joining.new.Given as goal

abbrev pub invariant-loop-n : goal.invariant-loop-n
invariant-loop-n l = GoesDown l.lesser.items × (length l.lesser.items ≡ l.n) × ((k : ℕ) → k < l.n → get_or l.lesser.items k 0 ≡ k)
