use Rattle.std.proofs.Common.{◌≡◌, ◌≤◌, ◌++◌, drop, length}
use Rattle.numerals.specs.Decimal.{last_digits}
use Rattle.numerals.proofs.decimal.write_digits.Given as goal

abbrev pub invariant-loop-i : goal.invariant-loop-i
invariant-loop-i l = (l.i ≤ length l.room) × (last_digits (length l.room) l.fn.n ≡ last_digits l.i l.n ++ drop l.i l.room)

abbrev pub decreases-loop-i : goal.decreases-loop-i
decreases-loop-i l = l.i
