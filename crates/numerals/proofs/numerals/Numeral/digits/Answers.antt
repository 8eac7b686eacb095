use Rattle.std.proofs.Common.{ℕ, ap, ◌∙◌, sym, min}
use Rattle.numerals.specs.Numeral.{number_onto, number_of}
use Rattle.numerals.specs.Units.{units_cap}
use Rattle.numerals.proofs.Scaling.{capped_onto, number_onto-append}
use Rattle.numerals.proofs.numerals.Numeral.digits.Goals as goal

pub returns : goal.returns
returns c =
    record {
      exact = c.count_onto-2.ensures.exact ∙ ap (λ (n : ℕ). min (number_onto n c.args.self.now.fraction.now) units_cap) c.count_onto.ensures.exact
          ∙ capped_onto (number_of c.args.self.now.whole.now) units_cap c.args.self.now.fraction.now
          ∙ ap (λ (n : ℕ). min n units_cap) (sym (number_onto-append 0 c.args.self.now.whole.now c.args.self.now.fraction.now));
    }
