use Rattle.std.proofs.Common.{◌≡◌, ◌+◌, drop}
use Rattle.run_borders.specs.Borders.{first_difference}
use Rattle.run_borders.proofs.borders.first_difference.Given as goal

abbrev pub invariant-loop-number : goal.invariant-loop-number
invariant-loop-number l = first_difference l.left l.right ≡ l.number + first_difference (drop l.number l.left) (drop l.number l.right)
