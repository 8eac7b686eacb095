use Rattle.std.proofs.Common.{◌≡◌, ℕ, ◌<◌, ◌≤◌, false, get_or}
use Rattle.face_groups.proofs.grouping.end_of_run.Given as goal

abbrev pub invariant-loop-i : goal.invariant-loop-i
invariant-loop-i g l = (k : ℕ) → l.first ≤ k → k < l.i → g.K.FaceKeys.comes_before l.keys (get_or l.faces l.first 0) (get_or l.faces k 0) ≡ false
