use Rattle.numerals.proofs.NumeralFronts.{no_point_front}
use Rattle.numerals.proofs.plain_numeral.whole_front.Goals as goal

pub returns : goal.returns
returns c = record { found = no_point_front c.args.n c.args.text.now (c.goes_on.ensures.no c.if-goes_on.false) }
