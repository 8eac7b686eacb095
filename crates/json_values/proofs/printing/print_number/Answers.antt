use Rattle.std.proofs.Common.{◌≡◌, ◌++◌, ◌∙◌, ap, sym, List, ℕ, Some, None}
use Rattle.std.proofs.lemmas.Result.{on_ok_weaker}
use Rattle.numerals.specs.Decimal.{decimal_of_text}
use Rattle.json_values.proofs.NumberTexts.{number_some, number_none}
use Rattle.json_values.proofs.printing.print_number.Goals as goal

pub returns-in-Some-clause-ok : goal.returns-in-Some-clause-ok
returns-in-Some-clause-ok c =
    let is : decimal_of_text c.args.numeral.now ≡ Some c.in-Some.decimal = ap (λ (t : List ℕ). decimal_of_text t) (sym c.as_str-text.ensures.lent) ∙ sym c.parse.ensures.exact ∙ c.in-Some.is in
    on_ok_weaker c.print_into.result (λ e. e ∙ ap (λ (t : List ℕ). c.args.out.now ++ t) (sym (number_some c.args.numeral.now c.in-Some.decimal is))) c.print_into.ensures.ok

pub returns-in-None-clause-ok : goal.returns-in-None-clause-ok
returns-in-None-clause-ok c =
    let is : decimal_of_text c.args.numeral.now ≡ None = ap (λ (t : List ℕ). decimal_of_text t) (sym c.as_str-text.ensures.lent) ∙ sym c.parse.ensures.exact ∙ c.in-None.is in
    on_ok_weaker c.extend.result (λ e. e ∙ ap (λ (t : List ℕ). c.args.out.now ++ t) (c.as_bytes.ensures.value ∙ c.as_str-text.ensures.lent ∙ sym (number_none c.args.numeral.now is))) c.extend.ensures.ok
