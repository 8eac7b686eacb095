use Rattle.std.proofs.Common.{◌≡◌, ◌≤◌}
use Rattle.numerals.specs.Decimal.{trimmed_digits}
use Rattle.numerals.proofs.decimal.print_trimmed.Given as goal

abbrev pub invariant-loop-count : goal.invariant-loop-count
invariant-loop-count l = (l.count ≤ 18) × (trimmed_digits l.fn.count l.fn.n ≡ trimmed_digits l.count l.n)

abbrev pub decreases-loop-count : goal.decreases-loop-count
decreases-loop-count l = l.count
