use Rattle.std.proofs.Common.{◌≡◌, min, take}
use Rattle.numerals.specs.Numeral.{number_onto}
use Rattle.numerals.specs.Units.{units_cap}
use Rattle.numerals.proofs.numerals.count_onto.Given as goal

abbrev pub invariant-loop-digit : goal.invariant-loop-digit
invariant-loop-digit l = l.n ≡ min (number_onto l.fn.n (take l.digit-index l.digits)) units_cap
