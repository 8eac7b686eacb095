use Rattle.std.proofs.Common.{◌≡◌, ◌∙◌, ap, rules, Some}
use Rattle.std.specs.Prelude.{unsigned_abs}
use Rattle.numerals.proofs.SignedProducts.{product_none, product_some}
use Rattle.numerals.proofs.decimal.Decimal.checked_mul.Goals as goal

pub returns-in_err-size : goal.returns-in_err-size
returns-in_err-size c =
    let x : c.unsigned_abs.result ≡ unsigned_abs c.args.self.now = search rules in
    let y : c.unsigned_abs-2.result ≡ unsigned_abs c.args.o.now = search rules in
    record { exact = c.from_residual.ensures ∙ product_none c.args.self.now c.args.o.now c.unsigned_abs.result c.unsigned_abs-2.result x y c.in_err-size.ensures.exact }

pub returns : goal.returns
returns c =
    let x : c.unsigned_abs.result ≡ unsigned_abs c.args.self.now = search rules in
    let y : c.unsigned_abs-2.result ≡ unsigned_abs c.args.o.now = search rules in
    record { exact = ap Some c.of_size.ensures.exact ∙ product_some c.args.self.now c.args.o.now c.unsigned_abs.result c.unsigned_abs-2.result _ _ _ x y c.is_negative.ensures.exact c.is_negative-2.ensures.exact c.in_ok-size.ensures.exact }
