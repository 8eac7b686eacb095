use Rattle.std.proofs.Common.{◌≡◌, ◌<◌, ◌≤◌, length, get_or}
use Rattle.face_walk.specs.Joining.{GoesDown, least_numbers}
use Rattle.face_walk.proofs.joining.shorten.Given as goal

abbrev pub invariant-loop-lesser : goal.invariant-loop-lesser
invariant-loop-lesser l =
    (l.at < length l.lesser) × (l.at ≤ l.n) × GoesDown l.lesser × (least_numbers l.lesser ≡ least_numbers l.fn.lesser)
    × (get_or (least_numbers l.fn.lesser) l.at 0 ≡ get_or (least_numbers l.fn.lesser) l.n 0)

abbrev pub decreases-loop-lesser : goal.decreases-loop-lesser
decreases-loop-lesser l = l.at
