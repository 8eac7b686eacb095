use Rattle.json_read.proofs.Numbers.{number_passes, number_text, number_numeral}
use Rattle.json_read.proofs.reader.Reader.begun_numeral.Goals as goal

pub numeral_text-requires : goal.numeral_text-requires
numeral_text-requires c = record { number = number_text _ _ (number_passes _ _ _ _ _ c.minus.ensures.read c.in-Ok.ensures.read c.in-Ok-fraction.ensures.read c.in-Ok-exponent.ensures.read) }

pub returns : goal.returns
returns c = record { read = number_numeral _ _ _ (number_passes _ _ _ _ _ c.minus.ensures.read c.in-Ok.ensures.read c.in-Ok-fraction.ensures.read c.in-Ok-exponent.ensures.read) c.numeral_text.ensures.exact }
