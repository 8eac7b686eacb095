use Rattle.std.proofs.Common.{◌≡◌, ◌*◌, ◌^◌, min}
use Rattle.numerals.specs.Units.{units_cap}
use Rattle.numerals.proofs.numerals.raised.Given as goal

abbrev pub invariant-loop : goal.invariant-loop
invariant-loop l = l.n ≡ min (l.fn.n * 10 ^ l.counter) units_cap
