use Rattle.std.proofs.Common.{◌≡◌, ◌<◌, ◌∙◌, true, false, eqb, sym, length, arith}
use Rattle.std.specs.Str.{all_ascii_digits}
use Rattle.std.proofs.lemmas.Bool.Decides.{nat_tests}
use Rattle.cmd_words.proofs.Numbers.{number_refused}
use Rattle.cmd_words.proofs.quantities.number_of.Goals as goal

pub returns-in-Err : goal.returns-in-Err
returns-in-Err c =
    let t : c.are_digits.result ≡ true = c.if-not-are_digits.false in
    let e = c.are_digits.ensures.exact in
    let v = c.as_bytes.ensures.value in
    let d : all_ascii_digits c.args.digits.now ≡ true = cc in
    let k : eqb (length c.args.digits.now) 0 ≡ false = sym c.is_empty.ensures ∙ c.if-is_empty.false in
    let long : 0 < length c.args.digits.now = grind (arith, nat_tests) in
    record { exact = number_refused c.args.digits.now c.in-Err.ensures.value.0 d long }
