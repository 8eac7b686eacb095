use Rattle.std.proofs.Common.{rules, ◌≡◌, ◌∙◌, ap}
use Rattle.numerals.specs.Decimal.{checked, checked_where, decimal_of_text}
use Rattle.numerals.proofs.Quotients.{counted_decimal}
use Rattle.numerals.proofs.decimal.Decimal.parse_bytes.Goals as goal

pub returns-in_err-units_of : goal.returns-in_err-units_of
returns-in_err-units_of c = record { exact = c.from_residual.ensures ∙ ap checked_where c.in_err-units_of.ensures.exact ∙ counted_decimal c.args.text.now }

pub returns : goal.returns
returns c =
    let is : checked c.in_ok-units_of.field-0 ≡ decimal_of_text c.args.text.now = ap checked_where c.in_ok-units_of.ensures.exact ∙ counted_decimal c.args.text.now in
    record { exact = search (rules, is) }
