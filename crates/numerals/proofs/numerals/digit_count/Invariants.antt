use Rattle.std.proofs.Common.{◌≡◌, ◌≤◌, ◌+◌, ◌-◌, length, drop}
use Rattle.numerals.specs.Numeral.{digits_at}
use Rattle.numerals.proofs.numerals.digit_count.Given as goal

abbrev pub invariant-loop-n : goal.invariant-loop-n
invariant-loop-n l = (l.n ≤ length l.text) × (length (digits_at l.text) ≡ l.n + length (digits_at (drop l.n l.text)))

abbrev pub decreases-loop-n : goal.decreases-loop-n
decreases-loop-n l = length l.text - l.n
