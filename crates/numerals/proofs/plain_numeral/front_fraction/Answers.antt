use Rattle.std.proofs.Common.{arith, ap, length, subst, List, ℕ}
use Rattle.numerals.specs.Plain.{is_numeric}
use Rattle.numerals.specs.Bytes.{NextFails}
use Rattle.numerals.proofs.NumeralFronts.{is_fraction, point_front}
use Rattle.numerals.proofs.plain_numeral.front_fraction.Goals as goal

pub front_number-number-requires-clause-few : goal.front_number-number-requires-clause-few
front_number-number-requires-clause-few c = omega (arith, c.requires.few, ap length c.in-Some.ensures.some)

pub returns : goal.returns
returns c =
    let number = c.front_number-number.result.0 in
    let count = c.front_number-number.result.1 in
    let past = c.in-Some.past.now in
    let h = c.front_number-number.ensures in
    let ends = subst (λ (xs : List ℕ). NextFails is_numeric xs) c.split_at.ensures.back (c.goes_on.ensures.no c.if-goes_on.false) in
    record { found = point_front c.args.n number count c.args.text.now past c.in-Some.ensures.some (is_fraction c.args.n number count past h.number h.count c.if-count-eq0.false (omega (arith, h.fits, c.requires.few, ap length c.in-Some.ensures.some))) ends h.fits }
