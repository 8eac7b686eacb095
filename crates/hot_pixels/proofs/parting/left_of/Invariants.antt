use Rattle.std.proofs.Common.{◌≡◌, take}
use Rattle.hot_pixels.specs.Parting.{left_numbers}
use Rattle.hot_pixels.proofs.parting.left_of.Given as goal

abbrev pub invariant-loop-i : goal.invariant-loop-i
invariant-loop-i l = l.left.items ≡ left_numbers l.line l.edges (take l.i-index l.near)
