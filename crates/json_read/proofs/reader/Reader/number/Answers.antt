use Rattle.std.proofs.Common.{◌∙◌}
use Rattle.json_read.proofs.Numbers.{number_whole, number_fraction, number_exponent, number_passes, number_text, number_numeral}
use Rattle.json_read.proofs.Parts.{at_exit}
use Rattle.json_read.proofs.reader.Reader.number.Goals as goal

pub returns-in_err-whole : goal.returns-in_err-whole
returns-in_err-whole c = record { read = at_exit _ _ c.from_residual.result c.in_err-whole.field-0.0 c.from_residual.ensures.1 (number_whole _ _ _ _ c.minus.ensures.read c.in_err-whole.ensures.read) }

pub returns-in_err-fraction : goal.returns-in_err-fraction
returns-in_err-fraction c =
    record { read = at_exit _ _ c.from_residual-in_err-fraction.result c.in_err-fraction.field-0.0 c.from_residual-in_err-fraction.ensures.1 (number_fraction _ _ _ _ _ c.minus.ensures.read c.in_ok-whole.ensures.read c.in_err-fraction.ensures.read) }

pub returns-in_err-exponent : goal.returns-in_err-exponent
returns-in_err-exponent c =
    record { read = at_exit _ _ c.from_residual-in_err-exponent.result c.in_err-exponent.field-0.0 c.from_residual-in_err-exponent.ensures.1 (number_exponent _ _ _ _ _ _ c.minus.ensures.read c.in_ok-whole.ensures.read c.in_ok-fraction.ensures.read c.in_err-exponent.ensures.read) }

pub numeral_text-text-requires : goal.numeral_text-text-requires
numeral_text-text-requires c =
    record { number = number_text _ _ (number_passes _ _ _ _ _ c.minus.ensures.read c.in_ok-whole.ensures.read c.in_ok-fraction.ensures.read c.in_ok-exponent.ensures.read) }

pub returns : goal.returns
returns c =
    record { read = number_numeral _ _ _ (number_passes _ _ _ _ _ c.minus.ensures.read c.in_ok-whole.ensures.read c.in_ok-fraction.ensures.read c.in_ok-exponent.ensures.read) (c.in_ok-of.ensures.copied ∙ c.numeral_text-text.ensures.exact) }
