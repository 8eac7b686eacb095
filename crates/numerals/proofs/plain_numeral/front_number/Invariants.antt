use Rattle.std.proofs.Common.{◌≡◌, ◌≤◌, ◌<◌, ◌+◌, ◌-◌, ◌^◌, length, drop, take}
use Rattle.numerals.specs.Numeral.{digits_at, number_onto}
use Rattle.numerals.proofs.plain_numeral.front_number.Given as goal

abbrev pub invariant-loop-count : goal.invariant-loop-count
invariant-loop-count l = (l.count ≤ length l.text) × (length (digits_at l.text) ≡ l.count + length (digits_at (drop l.count l.text))) × (l.number ≡ number_onto l.n (take l.count l.text)) × (l.number < 10 ^ (l.before + l.count))

abbrev pub decreases-loop-count : goal.decreases-loop-count
decreases-loop-count l = length l.text - l.count
