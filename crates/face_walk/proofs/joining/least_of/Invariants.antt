use Rattle.std.proofs.Common.{◌≡◌, ◌<◌, ◌≤◌, length, get_or}
use Rattle.face_walk.specs.Joining.{least_numbers}
use Rattle.face_walk.proofs.joining.least_of.Given as goal

abbrev pub invariant-loop-at : goal.invariant-loop-at
invariant-loop-at l = (l.at < length l.lesser) × (l.at ≤ l.n) × (get_or (least_numbers l.lesser) l.at 0 ≡ get_or (least_numbers l.lesser) l.n 0)

abbrev pub decreases-loop-at : goal.decreases-loop-at
decreases-loop-at l = l.at
