use Rattle.std.proofs.Common.{◌≡◌, min, take}
use Rattle.numerals.specs.Numeral.{number_of}
use Rattle.numerals.specs.Scaling.{power_cap}
use Rattle.numerals.proofs.numerals.power_of.Given as goal

abbrev pub invariant-loop-digit : goal.invariant-loop-digit
invariant-loop-digit l = l.n ≡ min (number_of (take l.digit-index l.digits)) power_cap
