use Rattle.std.proofs.Common.{◌≡◌, ◌++◌, take}
use Rattle.hot_pixels.specs.Marking.{others_of}
use Rattle.hot_pixels.proofs.marking.add_others.Given as goal

abbrev pub invariant-loop-p : goal.invariant-loop-p
invariant-loop-p l = l.points.items ≡ l.initial.points.items ++ others_of l.s (take l.p-index l.met)
