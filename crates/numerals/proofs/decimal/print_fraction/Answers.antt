use Rattle.std.proofs.Common.{ap, ◌∙◌, sym, ◌≡◌, ◌++◌, ◌∷◌, [], List, ℕ, append-nil, append_assoc, ne_eqb, ◌==◌, false}
use Rattle.std.proofs.lemmas.Result.{on_ok_weaker}
use Rattle.numerals.specs.Decimal.{fraction_text, trimmed_digits}
use Rattle.numerals.proofs.Digits.{fraction_text-zero, fraction_text-other}
use Rattle.numerals.proofs.decimal.print_fraction.Goals as goal

pub returns-then-fraction-eq0-clause-ok : goal.returns-then-fraction-eq0-clause-ok
returns-then-fraction-eq0-clause-ok c =
    sym (ap (λ (n : ℕ). c.args.out.now ++ fraction_text n) c.if-fraction-eq0.true ∙ ap (λ (t : List ℕ). c.args.out.now ++ t) fraction_text-zero ∙ append-nil c.args.out.now)

pub returns-clause-ok : goal.returns-clause-ok
returns-clause-ok c =
    let other : (c.args.fraction == 0) ≡ false = ne_eqb c.args.fraction 0 c.if-fraction-eq0.false in
    on_ok_weaker c.print_digits.result (λ e. e ∙ ap (λ (l : List ℕ). l ++ trimmed_digits 18 c.args.fraction) c.in_ok-push.ensures.ok ∙ append_assoc c.args.out.now (46 ∷ []) (trimmed_digits 18 c.args.fraction) ∙ ap (λ (t : List ℕ). c.args.out.now ++ t) (sym (fraction_text-other c.args.fraction other))) c.print_digits.ensures.ok
