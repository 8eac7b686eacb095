use Rattle.std.proofs.Common.{rules, ◌≡◌, true}
use Rattle.numerals.specs.Numeral.{unsigned_numeral, is_whole_part}
use Rattle.numerals.specs.Scaling.{IsRead}
use Rattle.numerals.proofs.NumeralParts.{read_parts}
use Rattle.numerals.proofs.numerals.Numeral.read_unsigned.Goals as goal

pub returns : goal.returns
returns c =
    let whole : is_whole_part c.split_at.result.0.now ≡ true = search rules in
    let read : IsRead (unsigned_numeral c.args.minus c.args.text.now) c.args.minus c.split_at.result.0.now c.in_ok-fraction.fraction.now c.in_ok-power.power = read_parts c.args.minus c.args.text.now _ _ _ _ _ _ _ c.digit_count.ensures.count c.split_at.ensures.front c.split_at.ensures.back whole c.in_ok-fraction.ensures.exact c.in_ok-power.ensures.exact.1 c.in_ok-power.ensures.exact.2 in
    record { exact = search (rules, read) }
