use Rattle.std.proofs.Common.{arith, subst, sym, zero-add, ◌<◌, ◌^◌, ℕ}
use Rattle.numerals.proofs.NumeralFronts.{unsigned_front}
use Rattle.numerals.proofs.plain_numeral.Plain.short_front.Goals as goal

pub front_fraction-requires-clause-small : goal.front_fraction-requires-clause-small
front_fraction-requires-clause-small c = subst (λ (k : ℕ). c.front_number-front.result.0 < 10 ^ k) (zero-add c.front_number-front.result.1) c.front_number-front.ensures.small

pub front_fraction-requires-clause-few : goal.front_fraction-requires-clause-few
front_fraction-requires-clause-few c = omega (arith, c.split_at.ensures.back_len, c.front_number-front.ensures.fits, c.requires)

pub returns : goal.returns
returns c =
    record {
      found = unsigned_front c.args.minus c.args.text.now _ _ c.front_number-front.result.0 c.front_number-front.result.1 c.in_ok-number.number c.in_ok-number.fraction c.in_ok-number.size
          c.front_number-front.ensures.number c.front_number-front.ensures.count c.front_number-front.ensures.fits c.split_at.ensures.front c.split_at.ensures.back (sym (c.if-not-is_whole.ensures.exact)) c.in_ok-number.ensures.found;
    }
