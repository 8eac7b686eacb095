use Rattle.std.proofs.Common.{arith, ◌≤◌, length}
use Rattle.numerals.proofs.NumeralFronts.{window_front}
use Rattle.numerals.proofs.plain_numeral.Plain.unsigned_front.Goals as goal

pub returns : goal.returns
returns c =
    let within : c.min.result ≤ length c.args.text.now = omega (arith, c.min.ensures) in
    record { found = window_front c.args.minus c.args.text.now c.split_at.result.0.now c.split_at.result.1.now c.min.result c.in_ok-plain.size c.in_ok-plain.plain within c.split_at.ensures.front c.split_at.ensures.back (c.is_cut.ensures.no c.if-is_cut.false) c.in_ok-plain.ensures.found }
