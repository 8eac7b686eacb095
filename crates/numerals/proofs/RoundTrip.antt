-- The printed text of a decimal denotes that decimal.
use Rattle.std.proofs.Common.{ℕ, zero, suc, ◌≡◌, ◌≢◌, ◌+◌, ◌-◌, ◌*◌, ◌/◌, ◌%◌, ◌^◌, ◌<◌, ◌≤◌, List, [], ◌∷◌, ◌++◌, Bool, true, false, not, cond, ◌==◌, refl, ap, ◌∙◌, sym, subst, length, arith, lit<, ℤ, pos, negsuc, ◌+ℤ◌, ◌-ℤ◌, Option, Some, None, option_and_then, append-nil, append_assoc, length-append, true≢false, decimal}
use Rattle.std.specs.Prelude.{unsigned_abs}
use Rattle.std.proofs.lemmas.Bool.Decides.{nat_tests, Decides-eqb}
use Rattle.std.proofs.lemmas.Fmt.{decimal_by_steps}
use Rattle.std.proofs.lemmas.Int.{ints}
use Rattle.std.proofs.lemmas.Nat.{div-add-mod', pow-add}
use Rattle.std.proofs.Math.Nat.{mod-lt, mul_assoc}
use Rattle.numerals.specs.Bytes.{is_digit, NextFails}
use Rattle.numerals.specs.Numeral.{digits_at, after_digits, number_of, is_some_digits, is_whole_part, fraction_part, numeral_from, signed, unsigned_numeral, with_exponent, with_fraction, numeral_of, Numeral}
use Rattle.numerals.specs.Decimal.{checked, checked_where, decimal_of_text, decimal_text, fraction_text, is_negative, last_digits, sign_text, trimmed_digits}
use Rattle.numerals.specs.Units.{units_at, whole_of}
use Rattle.numerals.specs.Scaling.{AreDigits}
use Rattle.numerals.proofs.Digits.{decimal_text-parts, fraction_text-zero, fraction_text-other, trimmed_digits-zero, trimmed_digits-other}
use Rattle.numerals.proofs.NumbersAreNumerals.{front_all, after_all}
use Rattle.numerals.proofs.Quotients.{checked_some, times_power}
use Rattle.numerals.proofs.Scaling.{digits_append, number_onto-append, number_onto-sum, pow_ten}

-- ## The digits of a whole number

digit_of : (d : ℕ) → d < 10 → is_digit (48 + d) ≡ true
digit_of d l = grind (arith, nat_tests)

begins_above : List ℕ → Type 0
begins_above [] = ⊥
begins_above (b ∷ bs) = not (b == 48) ≡ true

above_zero : (n : ℕ) → 1 ≤ n → n < 10 → not ((48 + n) == 48) ≡ true
above_zero n h l = grind (arith, nat_tests)

record IsWritten (n : ℕ) (ds : List ℕ) : Type 0 where
  digits : AreDigits ds
  value : number_of ds ≡ n
  whole : is_whole_part ds ≡ true
  first : 1 ≤ n → begins_above ds

written_one : (n : ℕ) → n < 10 → IsWritten n ((48 + n) ∷ [])
unfolding begins_above
written_one n l = record {
  digits = (digit_of n l, tt);
  value = omega arith;
  whole = refl;
  first = λ h. above_zero n h l;
}

written_more : (n : ℕ) (ds : List ℕ) → 10 ≤ n → IsWritten (n / 10) ds → IsWritten n (ds ++ ((48 + n % 10) ∷ []))
unfolding begins_above
written_more n ds l h =
    let small : n % 10 < 10 = mod-lt n (lit< tt) in
    let parts : n / 10 * 10 + n % 10 ≡ n = div-add-mod' n 10 in
    let tens : 1 ≤ n / 10 = omega (arith, parts, small, l) in
    record {
      digits = digits_append ds ((48 + n % 10) ∷ []) h.digits (digit_of (n % 10) small, tt);
      value = number_onto-append 0 ds ((48 + n % 10) ∷ []) ∙ ap (λ (m : ℕ). m * 10 + ((48 + n % 10) - 48)) h.value ∙ omega (arith, parts);
      whole = whole_more ds ((48 + n % 10) ∷ []) (h.first tens);
      first = λ _. first_more ds ((48 + n % 10) ∷ []) (h.first tens);
    }
  where
    whole_more : (ds es : List ℕ) → begins_above ds → is_whole_part (ds ++ es) ≡ true
    whole_more [] es b = absurd b
    whole_more (d ∷ []) [] b = refl
    whole_more (d ∷ []) (e ∷ es) b = b
    whole_more (d ∷ c ∷ ds) es b = b

    first_more : (ds es : List ℕ) → begins_above ds → begins_above (ds ++ es)
    first_more [] es b = absurd b
    first_more (d ∷ ds) es b = b

written : (n : ℕ) → n < 2 ^ 64 → IsWritten n (decimal n)
written n l = decimal_by_steps IsWritten written_one written_more n l

-- ## The digits of a fraction

record IsFraction (k n : ℕ) (ds : List ℕ) : Type 0 where
  digits : AreDigits ds
  short : length ds ≤ k
  value : number_of ds * 10 ^ (k - length ds) ≡ n
  some : is_some_digits ds ≡ true

record IsLast (k n : ℕ) (ds : List ℕ) : Type 0 where
  digits : AreDigits ds
  long : length ds ≡ k
  value : number_of ds ≡ n

last_is : (k n : ℕ) → n < 10 ^ k → IsLast k n (last_digits k n)
unfolding last_digits
last_is zero n l = record { digits = tt; long = refl; value = omega (arith, l) }
last_is (suc k) n l =
    let grows : 10 ^ suc k ≡ 10 ^ k * 10 = pow_ten k in
    let small : n % 10 < 10 = mod-lt n (lit< tt) in
    let parts : n / 10 * 10 + n % 10 ≡ n = div-add-mod' n 10 in
    let h : IsLast k (n / 10) (last_digits k (n / 10)) = last_is k (n / 10) (omega (arith, grows, parts, l)) in
    record {
      digits = digits_append (last_digits k (n / 10)) ((48 + n % 10) ∷ []) h.digits (digit_of (n % 10) small, tt);
      long = omega (arith, h.long, length-append (last_digits k (n / 10)) ((48 + n % 10) ∷ []));
      value = number_onto-append 0 (last_digits k (n / 10)) ((48 + n % 10) ∷ []) ∙ ap (λ (m : ℕ). m * 10 + ((48 + n % 10) - 48)) h.value ∙ omega (arith, parts);
    }

some_of_length : (ds : List ℕ) (k : ℕ) → length ds ≡ suc k → is_some_digits ds ≡ true
some_of_length [] k e = absurd (omega (arith, e))
some_of_length (d ∷ ds) k e = refl

times_one : (m : ℕ) → m * 10 ^ 0 ≡ m
times_one m = omega arith

trimmed_is : (k n : ℕ) → n < 10 ^ k → n ≢ 0 → IsFraction k n (trimmed_digits k n)
trimmed_is zero n l h = absurd (h (omega (arith, l)))
trimmed_is (suc k) n l h = go (n % 10 == 0) refl (trimmed_is k (n / 10))
  where
    parts : n / 10 * 10 + n % 10 ≡ n
    parts = div-add-mod' n 10

    go : (t : Bool) → (n % 10 == 0) ≡ t → (n / 10 < 10 ^ k → n / 10 ≢ 0 → IsFraction k (n / 10) (trimmed_digits k (n / 10))) → IsFraction (suc k) n (trimmed_digits (suc k) n)
    go true e r =
        let none : n % 10 ≡ 0 = (Decides-eqb (n % 10) 0).0 e in
        let grows : 10 ^ suc k ≡ 10 ^ k * 10 = pow_ten k in
        let some : n / 10 ≢ 0 = λ z. h (omega (arith, div-add-mod' n 10, none, z)) in
        let f : IsFraction k (n / 10) (trimmed_digits k (n / 10)) = r (omega (arith, grows, div-add-mod' n 10, l)) some in
        let j : ℕ = length (trimmed_digits k (n / 10)) in
        let m : ℕ = number_of (trimmed_digits k (n / 10)) in
        let shift : suc k - length (trimmed_digits k (n / 10)) ≡ suc (k - length (trimmed_digits k (n / 10))) = omega (arith, f.short) in
        let value : m * 10 ^ (suc k - j) ≡ n = ap (λ (x : ℕ). m * 10 ^ x) shift ∙ ap (λ (x : ℕ). m * x) (pow_ten (k - j)) ∙ sym (mul_assoc m (10 ^ (k - j)) 10) ∙ ap (λ (x : ℕ). x * 10) f.value ∙ omega (arith, div-add-mod' n 10, none) in
        subst (λ (ds : List ℕ). IsFraction (suc k) n ds) (sym (trimmed_digits-zero k n none)) (record { digits = f.digits; short = omega (arith, f.short); value = value; some = f.some })
    go false e r =
        let f : IsLast (suc k) n (last_digits (suc k) n) = last_is (suc k) n l in
        let m : ℕ = number_of (last_digits (suc k) n) in
        let shift : suc k - length (last_digits (suc k) n) ≡ 0 = omega (arith, f.long) in
        subst (λ (ds : List ℕ). IsFraction (suc k) n ds) (sym (trimmed_digits-other k n e)) (record { digits = f.digits; short = omega (arith, f.long); value = ap (λ (x : ℕ). m * 10 ^ x) shift ∙ times_one m ∙ f.value; some = some_of_length (last_digits (suc k) n) k f.long })

-- ## The numeral

-- the text after a sign, where the fraction has the digits f
unsigned_read : (m : Bool) (w f t : List ℕ) → AreDigits w → is_whole_part w ≡ true → NextFails is_digit t → fraction_part t ≡ Some (f, []) → unsigned_numeral m (w ++ t) ≡ Some (numeral_from m w f (pos 0))
unsigned_read m w f t d h n e =
    ap (λ (l : List ℕ). cond (is_whole_part l) (with_fraction m l (after_digits (w ++ t))) None) (front_all w t d n)
    ∙ ap (λ (l : List ℕ). cond (is_whole_part w) (with_fraction m w l) None) (after_all w t d n)
    ∙ ap (λ (b : Bool). cond b (with_fraction m w t) None) h
    ∙ ap (λ (o : Option (List ℕ × List ℕ)). option_and_then (with_exponent m w) o) e

-- what the fraction is
record Fractions (n : ℕ) (t f : List ℕ) : Type 0 where
  fails : NextFails is_digit t
  part : fraction_part t ≡ Some (f, [])
  short : length f ≤ 18
  value : number_of f * 10 ^ (18 - length f) ≡ n

fraction_read : (n : ℕ) → n < 10 ^ 18 → (f : List ℕ) × Fractions n (fraction_text n) f
fraction_read n l = go (n == 0) refl
  where
    go : (b : Bool) → (n == 0) ≡ b → (f : List ℕ) × Fractions n (fraction_text n) f
    go true e =
        let none : n ≡ 0 = (Decides-eqb n 0).0 e in
        let empty : fraction_text n ≡ [] = ap fraction_text none ∙ fraction_text-zero in (
          [],
          record {
            fails = subst (λ (t : List ℕ). NextFails is_digit t) (sym empty) tt;
            part = ap fraction_part empty;
            short = omega arith;
            value = sym none;
          },
        )
    go false e =
        let h : IsFraction 18 n (trimmed_digits 18 n) = trimmed_is 18 n l (λ z. true≢false (sym ((Decides-eqb n 0).1 z) ∙ e)) in
        let ds : List ℕ = trimmed_digits 18 n in
        let is : fraction_text n ≡ 46 ∷ trimmed_digits 18 n = fraction_text-other n e in
        let all : digits_at ds ≡ ds = ap digits_at (sym (append-nil ds)) ∙ front_all ds [] h.digits tt in
        let none : after_digits ds ≡ [] = ap after_digits (sym (append-nil ds)) ∙ after_all ds [] h.digits tt in (
          ds,
          record {
            fails = subst (λ (t : List ℕ). NextFails is_digit t) (sym is) refl;
            part = ap fraction_part is ∙ ap (λ (x : List ℕ). cond (is_some_digits x) (Some (x, after_digits ds)) None) all ∙ ap (λ (b : Bool). cond b (Some (ds, after_digits ds)) None) h.some ∙ ap (λ (x : List ℕ). Some (ds, x)) none;
            short = h.short;
            value = h.value;
          },
        )

digit_no_minus : (b : ℕ) → is_digit b ≡ true → (b == 45) ≡ false
digit_no_minus b h = grind (arith, nat_tests)

sign_read : (m : Bool) (w t : List ℕ) → AreDigits w → is_whole_part w ≡ true → numeral_of (sign_text m ++ (w ++ t)) ≡ unsigned_numeral m (w ++ t)
unfolding numeral_of
sign_read true w t d h = refl
sign_read false [] t d h = absurd (true≢false (sym h))
sign_read false (b ∷ bs) t d h = ap (λ (x : Bool). cond x (unsigned_numeral true (bs ++ t)) (unsigned_numeral false (b ∷ (bs ++ t)))) (digit_no_minus b d.0)

-- ## The decimal

whole_value : (w f : List ℕ) (n r : ℕ) → number_of w ≡ n → length f ≤ 18 → number_of f * 10 ^ (18 - length f) ≡ r → number_of (w ++ f) * 10 ^ (18 - length f) ≡ n * 10 ^ 18 + r
whole_value w f n r a l b =
    let j : ℕ = length f in
    let P : ℕ = 10 ^ (18 - j) in
    let both : 10 ^ j * 10 ^ (18 - j) ≡ 10 ^ 18 = sym (pow-add 10 j (18 - j)) ∙ ap (λ (x : ℕ). 10 ^ x) (sum j l) in
    ap (λ (x : ℕ). x * P) (number_onto-append 0 w f ∙ number_onto-sum (number_of w) f ∙ ap (λ (x : ℕ). x * 10 ^ j + number_of f) a)
    ∙ spread n (10 ^ j) (number_of f) P ∙ ap (λ (x : ℕ). n * x + number_of f * P) both ∙ ap (λ (x : ℕ). n * 10 ^ 18 + x) b
  where
    sum : (j : ℕ) → j ≤ 18 → j + (18 - j) ≡ 18
    sum j l = omega arith

    spread : (n q g p : ℕ) → (n * q + g) * p ≡ n * (q * p) + g * p
    spread n q g p = omega arith

signed_back : (u : ℤ) → signed (is_negative u) (unsigned_abs u) ≡ u
signed_back (pos n) = refl
signed_back (negsuc n) = refl

exponent_back : (j : ℕ) → j ≤ 18 → (pos 0 -ℤ pos j) +ℤ pos 18 ≡ pos (18 - j)
exponent_back j l = omega (arith, ints)

numeral_read : (text : List ℕ) (v : Numeral) → numeral_of text ≡ Some v → decimal_of_text text ≡ checked_where (whole_of v.mantissa (v.exponent +ℤ pos 18))
unfolding decimal_of_text
numeral_read text v e = ap (λ (o : Option Numeral). checked_where (units_at 18 o)) e

-- the numeral that the printed text of a decimal is: the number `size`, with `places` of its digits after the point
pub record Written (units : ℤ) : Type 0 where
  pub size : ℕ
  pub places : ℕ
  pub is : numeral_of (decimal_text units) ≡ Some (record { mantissa = signed (is_negative units) size; exponent = pos 0 -ℤ pos places })
  pub short : places ≤ 18
  pub value : size * 10 ^ (18 - places) ≡ unsigned_abs units

pub written_numeral : (units : ℤ) → unsigned_abs units < 10 ^ 36 → Written units
written_numeral units l =
    let m : Bool = is_negative units in
    let N : ℕ = unsigned_abs units in
    let W : ℕ = N / 10 ^ 18 in
    let F : ℕ = N % 10 ^ 18 in
    let whole : N / 10 ^ 18 * 10 ^ 18 + N % 10 ^ 18 ≡ N = div-add-mod' N (10 ^ 18) in
    let rest : N % 10 ^ 18 < 10 ^ 18 = mod-lt N (lit< tt) in
    let small : N / 10 ^ 18 < 2 ^ 64 = omega (arith, whole, l) in
    let w : IsWritten W (decimal W) = written W small in
    let f = fraction_read F rest in
    let g : Fractions F (fraction_text F) f.0 = f.1 in
    let read : numeral_of (sign_text m ++ (decimal W ++ fraction_text F)) ≡ Some (numeral_from m (decimal W) f.0 (pos 0)) = sign_read m (decimal W) (fraction_text F) w.digits w.whole ∙ unsigned_read m (decimal W) f.0 (fraction_text F) w.digits w.whole g.fails g.part in
    let text : decimal_text units ≡ sign_text m ++ (decimal W ++ fraction_text F) = decimal_text-parts units ∙ append_assoc (sign_text m) (decimal W) (fraction_text F) in
    record {
      size = number_of (decimal W ++ f.0);
      places = length f.0;
      is = ap numeral_of text ∙ read;
      short = g.short;
      value = whole_value (decimal W) f.0 W F w.value g.short g.value ∙ whole;
    }

pub reads_back : (units : ℤ) → unsigned_abs units < 10 ^ 36 → decimal_of_text (decimal_text units) ≡ Some units
reads_back units l =
    let w : Written units = written_numeral units l in
    let m : Bool = is_negative units in
    let N : ℕ = unsigned_abs units in
    numeral_read (decimal_text units) (record { mantissa = signed m w.size; exponent = pos 0 -ℤ pos w.places }) w.is
    ∙ ap (λ (e : ℤ). checked_where (whole_of (signed m w.size) e)) (exponent_back w.places w.short)
    ∙ ap (λ (z : ℤ). checked z) (times_power m w.size (10 ^ (18 - w.places)) ∙ ap (λ (x : ℕ). signed m x) w.value)
    ∙ checked_some m N l ∙ ap (λ (z : ℤ). Some z) (signed_back units)
