use Rattle.std.proofs.Common.{rules, ◌≡◌}
use Rattle.std.specs.Prelude.{unsigned_abs}
use Rattle.std.proofs.lemmas.Result.{on_ok_weaker}
use Rattle.numerals.proofs.Digits.{decimal_joined}
use Rattle.numerals.proofs.decimal.Decimal.print_into.Goals as goal

pub returns-clause-ok : goal.returns-clause-ok
returns-clause-ok c =
    let size : c.unsigned_abs-size.result ≡ unsigned_abs c.args.self.now = search rules in
    on_ok_weaker c.print_fraction.result (λ e. decimal_joined c.args.self.now c.unsigned_abs-size.result c.is_negative.result _ _ _ _ size c.is_negative.ensures.exact c.in_ok-print_sign.ensures.ok c.in_ok-print_whole.ensures.ok e) c.print_fraction.ensures.ok
