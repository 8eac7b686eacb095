use Rattle.std.proofs.Common.{◌≡◌, ◌∙◌, ap, sym, subst}
use Rattle.expr_lang.specs.Tokens.{Text}
use Rattle.expr_lang.specs.Tokens.{skip_fraction, skip_exponent, after_number}
use Rattle.expr_lang.proofs.Boundaries.{Front, number_front}
use Rattle.expr_lang.proofs.scanner.Scanner.numeral.Goals as goal

pub front_of-requires : goal.front_of-requires
front_of-requires c =
    let start : Text = c.args.self.now.rest.now in
    let left : after_number start ≡ c.exponent.new.self.rest.now =
    sym (c.exponent.ensures.exact ∙ ap skip_exponent (c.fraction.ensures.exact ∙ ap skip_fraction c.whole.ensures.exact)) in
    subst (Front start) left (number_front start)
