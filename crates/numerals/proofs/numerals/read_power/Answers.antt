use Rattle.std.proofs.Common.{pos, refl}
use Rattle.numerals.proofs.NumeralParts.{exponent_none}
use Rattle.numerals.proofs.numerals.read_power.Goals as goal

pub returns-in_default : goal.returns-in_default
returns-in_default c = record { exact = (pos 0, exponent_none c.args.text.now c.in_default.len_below, refl) }
