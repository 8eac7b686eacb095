use Rattle.std.proofs.Common.{arith, rules, ℤ, ℕ, ◌≡◌, ◌<◌, ◌^◌, ◌++◌, ◌∙◌, pos, negsuc, ap, sym, length, length-append}
use Rattle.numerals.proofs.Scaling.{number_of-small, digits_append}
use Rattle.numerals.proofs.Shifts.{shifted, scaled_up, scaled_down}
use Rattle.numerals.proofs.numerals.Numeral.scaled.Goals as goal

pub returns-in-Up : goal.returns-in-Up
returns-in-Up c = record {
  exact = λ e p.
      let f : ℕ = length c.args.self.now.fraction.now in
      let short : length c.args.self.now.fraction.now < 2 ^ 64 = search rules in
      let at : shifted c.args.self.now.power f c.args.places ≡ pos c.in-Up.zeros = search (rules, c.in-Up.ensures.exact) in
      scaled_up _ e f c.args.places c.in-Up.zeros c.raised.result c.digits.result short c.ranges.places.fits (ap (λ (z : ℤ). shifted z f c.args.places) (sym p) ∙ at) c.digits.ensures.exact c.raised.ensures.exact;
}

pub returns-in-Down : goal.returns-in-Down
returns-in-Down c = record {
  exact = λ e p.
      let f : ℕ = length c.args.self.now.fraction.now in
      let w : ℕ = length c.args.self.now.whole.now in
      let short : length c.args.self.now.fraction.now < 2 ^ 64 = search rules in
      let short_whole : length c.args.self.now.whole.now < 2 ^ 64 = search rules in
      let all : length (c.args.self.now.whole.now ++ c.args.self.now.fraction.now) < 2 ^ 65 = omega (arith, short, short_whole, length-append c.args.self.now.whole.now c.args.self.now.fraction.now) in
      let at : shifted c.args.self.now.power f c.args.places ≡ negsuc c.in-Down.ensures.exact.0 = search (rules, c.in-Down.ensures.exact.2) in
      scaled_down _ e f c.args.places c.in-Down.ensures.exact.0 _ _ short all (number_of-small _ (digits_append _ _ c.requires.whole c.requires.fraction)) c.ranges.places.fits (ap (λ (z : ℤ). shifted z f c.args.places) (sym p) ∙ at) (c.cut.ensures.exact c.in-Down.ensures.exact.0 c.in-Down.ensures.exact.1);
}
