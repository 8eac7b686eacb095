use Rattle.numerals.proofs.NumbersAreNumerals.{number_has_value, numeral_is_number}
use Rattle.numerals.proofs.laws.numbers_are_numerals.Goals as goal

pub returns : goal.returns
returns c = record { holds = λ t. (number_has_value t, numeral_is_number t) }
