-- Numbers in decimal digits.
use Rattle.std.proofs.Common.{◌≡◌, ℕ, ◌<◌, ◌^◌, Bool, true, false, cond, ltb, leb, ◌&&◌, List, length, Some, None, Result, Err, refl, arith}
use Rattle.std.specs.Str.{all_ascii_digits}
use Rattle.std.specs.Str.Parse.{digits_value, ParsesUnsigned}
use Rattle.std.proofs.lemmas.Bool.Decides.{nat_tests}
use Rattle.std.proofs.lemmas.Str.Parse.{IsNumeralModel, numerals_by_value, tells_all_ascii_digits, parse_digits}
use Rattle.std.proofs.lemmas.Result.{OkIff-at_err}
use Rattle.cmd_words.specs.Quantities.{number_in}

own : IsNumeralModel (λ ds. all_ascii_digits ds ≡ true) (digits_value 10)
own = numerals_by_value _ tells_all_ascii_digits

number_above : (low high : ℕ) (bs : List ℕ) → high < digits_value 10 bs → None ≡ number_in low high bs
number_above low high bs l =
    let b : leb (digits_value 10 bs) high ≡ false = grind (arith, nat_tests) in
    go (ltb 0 (length bs) && all_ascii_digits bs) (leb low (digits_value 10 bs)) b
  where
    go : (t s : Bool) → leb (digits_value 10 bs) high ≡ false → None ≡ cond (t && (s && leb (digits_value 10 bs) high)) (Some (digits_value 10 bs)) None
    go true true e = rw e refl
    go true false e = refl
    go false s e = refl

-- what a parse answers for digits
number_unparsed : {E : Type 0} (bs : List ℕ) (r : Result ℕ E) (e : E) → ParsesUnsigned 32 10 bs r → r ≡ Err e → all_ascii_digits bs ≡ true → 0 < length bs → None ≡ number_in 0 4294967295 bs
number_unparsed bs r e h is d long =
    let p = OkIff-at_err r _ _ e (parse_digits own 32 bs r h d) is in
    go (leb (digits_value 10 bs) 4294967295) refl p
  where
    go : (s : Bool) → leb (digits_value 10 bs) 4294967295 ≡ s → ((0 < length bs) × (digits_value 10 bs < 2 ^ 32) → ⊥) → None ≡ number_in 0 4294967295 bs
    go true is none =
        let small : digits_value 10 bs < 2 ^ 32 = grind (arith, nat_tests) in
        absurd (none (long, small))
    go false is none = number_above 0 4294967295 bs (grind (arith, nat_tests))

abbrev refused : Result ℕ (Unit {0})
refused = Err tt

pub number_refused : (bs : List ℕ) → ParsesUnsigned 32 10 bs refused → all_ascii_digits bs ≡ true → 0 < length bs → None ≡ number_in 0 4294967295 bs
number_refused bs h d long = number_unparsed bs refused tt h refl d long
