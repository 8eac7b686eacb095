use Rattle.numerals.proofs.NumeralFronts.{any_front, minus_front}
use Rattle.numerals.proofs.plain_numeral.Plain.front.Goals as goal

pub returns-in_ok-plain-in-Some : goal.returns-in_ok-plain-in-Some
returns-in_ok-plain-in-Some c = record { found = minus_front c.args.text.now c.in-Some.unsigned.now c.in_ok-plain-in-Some.plain c.in_ok-plain-in-Some.size c.in-Some.ensures.some c.in_ok-plain-in-Some.ensures.found }

pub returns-in-None : goal.returns-in-None
returns-in-None c = record { found = any_front c.args.text.now c.unsigned_front-in-None.result c.in-None.ensures.none c.unsigned_front-in-None.ensures.found }
