use Rattle.std.proofs.Common.{ℕ, List, sym, subst, arith, ◌≡◌, ◌++◌, suc, [], length, length-append}
use Rattle.numerals.specs.Scaling.{AreDigits}
use Rattle.numerals.proofs.Scaling.{all_cut, digits_drop, cut_in_fraction, counted_twice, split_parts}
use Rattle.numerals.proofs.numerals.Numeral.cut.Goals as goal

pub returns-then-dropped-digits : goal.returns-then-dropped-digits
returns-then-dropped-digits c = record { exact = λ k e. all_cut c.args.self.now.whole.now c.args.self.now.fraction.now k _ c.requires.whole c.requires.fraction (omega (arith, e, c.if-dropped-digits.true)) c.are_zeros.ensures.exact }

pub cut_at-requires-clause-back : goal.cut_at-requires-clause-back
cut_at-requires-clause-back c = subst (λ (l : List ℕ). AreDigits l) (sym c.split_at.ensures.back) (digits_drop _ c.args.self.now.whole.now c.requires.whole)

pub cut_at-requires-else-kept-self-clause-back : goal.cut_at-requires-else-kept-self-clause-back
cut_at-requires-else-kept-self-clause-back c = subst (λ (l : List ℕ). AreDigits l) (sym c.split_at-else-kept-self.ensures.back) (digits_drop _ c.args.self.now.fraction.now c.requires.fraction)

pub returns-else-kept-self : goal.returns-else-kept-self
returns-else-kept-self c = record {
  exact = λ k e.
      let s = c.split_at-else-kept-self in
      let all : length (s.result.1.now ++ []) ≡ suc k = omega (arith, e, length-append s.result.1.now [], s.ensures.back_len, c.if-dropped-digits.false, c.if-kept-self.false) in
      cut_in_fraction c.args.self.now.whole.now c.args.self.now.fraction.now s.result.0.now s.result.1.now k _ (split_parts _ _ _ _ s.ensures.front s.ensures.back) (c.cut_at-else-kept-self.ensures.exact _ k (counted_twice c.args.self.now.whole.now s.result.0.now _ _ c.count_onto-else-kept-self.ensures.exact c.count_onto-else-kept-self-2.ensures.exact) all);
}
