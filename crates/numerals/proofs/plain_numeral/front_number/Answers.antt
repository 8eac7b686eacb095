use Rattle.std.proofs.Common.{arith, ◌+◌, ◌*◌, ◌^◌, ◌<◌}
use Rattle.std.proofs.lemmas.Bool.Decides.{nat_tests}
use Rattle.std.proofs.lemmas.Grind.{common_steps}
use Rattle.numerals.proofs.Scaling.{digit_more, word_size}
use Rattle.numerals.proofs.plain_numeral.front_number.Goals as goal

pub overflow_mul-number : goal.overflow_mul-number
overflow_mul-number c =
    let size : c.loop-count.number < 10 ^ 18 = word_size (c.args.before + c.loop-count.count) c.loop-count.number c.loop-count.invariant.3 (omega (arith, c.loop-count-test.true, c.requires.few)) in
    record { fits = omega (arith, size) }

pub overflow_add-number : goal.overflow_add-number
overflow_add-number c =
    let size : c.loop-count.number < 10 ^ 18 = word_size (c.args.before + c.loop-count.count) c.loop-count.number c.loop-count.invariant.3 (omega (arith, c.loop-count-test.true, c.requires.few)) in
    let small : c.from.result < 10 = grind (arith, nat_tests, c.is_digit.ensures.exact, c.if-is_digit.true, c.from.ensures) in
    record { fits = omega (arith, size, small) }

pub loop-count-preserved : goal.loop-count-preserved
loop-count-preserved c =
    let small : c.from.result < 10 = grind (arith, nat_tests, c.is_digit.ensures.exact, c.if-is_digit.true, c.from.ensures) in
    let size : c.loop-count.number * 10 + c.from.result < 10 ^ (c.args.before + (c.loop-count.count + 1)) = digit_more c.args.before c.loop-count.count c.loop-count.number c.from.result c.loop-count.invariant.3 small in
    (omega (arith, c.loop-count-test.true), grind (arith, common_steps), grind (arith, common_steps), size)
