use Rattle.std.proofs.Common.{arith, rules, ◌≡◌, ◌∙◌, ◌≢◌, length}
use Rattle.std.proofs.lemmas.Bool.Decides.{nat_tests}
use Rattle.numerals.specs.Numeral.{number_of, signed}
use Rattle.numerals.specs.Scaling.{capped_power}
use Rattle.numerals.proofs.NumeralParts.{exponent_some, capped_sign}
use Rattle.numerals.proofs.numerals.signed_power.Goals as goal

pub returns : goal.returns
returns c =
    let some : length c.args.digits.now ≢ 0 = grind (arith, nat_tests, c.is_empty.ensures, c.if-is_empty.false) in
    let capped : c.with_sign.result ≡ capped_power (signed c.args.minus (number_of c.args.digits.now)) = c.with_sign.ensures.exact ∙ capped_sign c.args.minus (number_of c.args.digits.now) _ c.power_of.ensures.exact in
    record { exact = (signed c.args.minus (number_of c.args.digits.now), exponent_some c.args.minus c.args.digits.now some (omega (arith, c.if-digit_count-digits.false, c.digit_count.ensures.count)), search rules) }
