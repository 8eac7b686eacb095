use Rattle.std.proofs.Common.{◌≡◌, ◌++◌, drop}
use Rattle.hot_pixels.specs.Spots.{spots_after}
use Rattle.hot_pixels.proofs.spots.add_steps.Given as goal

abbrev pub invariant-loop-p : goal.invariant-loop-p
invariant-loop-p l = l.initial.spots.items ++ spots_after l.fn.from l.path ≡ l.spots.items ++ spots_after l.last (drop l.p-index l.path)
