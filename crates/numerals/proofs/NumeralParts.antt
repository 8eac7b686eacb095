-- The parts of a numeral, as they are read.
use Rattle.std.proofs.Common.{ℕ, zero, suc, ◌≡◌, ◌≢◌, ◌+◌, ◌<◌, ◌≤◌, List, [], ◌∷◌, Bool, true, false, cond, ◌&&◌, ◌==◌, min, refl, ap, ◌∙◌, sym, subst, length, take, drop, arith, ℤ, pos, neg_ℤ, Option, Some, None, length-take, length-take-le, option_and_then, ◌⊎◌, inl, inr, take_all}
use Rattle.std.proofs.lemmas.Bool.{cases_lt}
use Rattle.std.proofs.lemmas.Bool.Decides.{Decides-eqb}
use Rattle.std.proofs.lemmas.Option.{none-some}
use Rattle.std.specs.List.{prefix_len}
use Rattle.numerals.specs.Bytes.{is_digit}
use Rattle.numerals.specs.Numeral.{digits_at, after_digits, number_of, is_some_digits, exponent_digits, exponent_part, fraction_part, is_whole_part, numeral_from, signed, unsigned_numeral, with_exponent, with_fraction}
use Rattle.numerals.specs.Scaling.{AreDigits, IsRead, capped_power, power_cap}

abbrev first_part : Option (List ℕ × List ℕ) → List ℕ
first_part None = []
first_part (Some p) = p.0

-- where all bytes are digits
all_digits : (t : List ℕ) → length t ≤ length (digits_at t) → digits_at t ≡ t
all_digits t l = take_all (prefix_len is_digit t) t (omega (arith, l, length-take (prefix_len is_digit t) t))

exponent_of : (minus : Bool) (t u : List ℕ) → u ≡ t → length t ≢ 0 → cond (is_some_digits u && (length u == length t)) (Some (signed minus (number_of u))) None ≡ Some (signed minus (number_of t))
exponent_of minus [] u e n = absurd (n refl)
exponent_of minus (b ∷ bs) u e n =
    ap (λ (v : List ℕ). cond (is_some_digits v && (length v == length (b ∷ bs))) (Some (signed minus (number_of v))) None) e
    ∙ ap (λ (t : Bool). cond t (Some (signed minus (number_of (b ∷ bs)))) None) ((Decides-eqb (length (b ∷ bs)) (length (b ∷ bs))).1 refl)

pub exponent_some : (minus : Bool) (t : List ℕ) → length t ≢ 0 → length t ≤ length (digits_at t) → exponent_digits minus t ≡ Some (signed minus (number_of t))
exponent_some minus t n l = exponent_of minus t (digits_at t) (all_digits t l) n

pub capped_sign : (minus : Bool) (n size : ℕ) → size ≡ min n power_cap → signed minus size ≡ capped_power (signed minus n)
capped_sign false n size e = ap (λ (z : ℕ). pos z) e
capped_sign true zero size e =
    let none : size ≡ 0 = omega (arith, e) in
    ap (λ (z : ℕ). neg_ℤ (pos z)) none
capped_sign true (suc n) size e = ap (λ (z : ℕ). neg_ℤ (pos z)) e

pub exponent_none : (t : List ℕ) → length t < 1 → exponent_part t ≡ Some (pos 0)
exponent_none [] l = refl
exponent_none (b ∷ bs) l = absurd (omega arith)

-- ## Digits at the front

pub front : (text : List ℕ) (k n : ℕ) → n ≡ length (take k text) → take n text ≡ take k text
front text k n e = go (cases_lt (length text) k)
  where
    go : (length text < k) ⊎ (k ≤ length text) → take n text ≡ take k text
    go (inl l) = take_all n text (omega (arith, e, l, length-take k text)) ∙ sym (take_all k text (omega arith))
    go (inr l) = ap (λ (m : ℕ). take m text) (e ∙ length-take-le k text l)

pub front_digits : (text : List ℕ) → AreDigits (digits_at text)
front_digits [] = tt
front_digits (b ∷ bs) = go (is_digit b) refl (front_digits bs)
  where
    go : (t : Bool) → is_digit b ≡ t → AreDigits (digits_at bs) → AreDigits (digits_at (b ∷ bs))
    go true e h =
        let k : ℕ = prefix_len is_digit bs in
        let one_more : 1 + k ≡ suc k = omega arith in
        subst (λ (l : List ℕ). AreDigits l) (sym (ap (λ (t : Bool). take (cond t (1 + k) 0) (b ∷ bs)) e ∙ ap (λ (m : ℕ). take m (b ∷ bs)) one_more)) (e, h)
    go false e h = subst (λ (l : List ℕ). AreDigits l) (sym (ap (λ (t : Bool). take (cond t (1 + prefix_len is_digit bs) 0) (b ∷ bs)) e)) tt

fraction_front : (t f r : List ℕ) → fraction_part t ≡ Some (f, r) → AreDigits f
fraction_front [] f r e = subst (λ (l : List ℕ). AreDigits l) (ap (λ (o : Option (List ℕ × List ℕ)). first_part o) e) tt
fraction_front (b ∷ bs) f r e = go (b == 46) (is_some_digits (digits_at bs)) refl refl
  where
    go : (s t : Bool) → (b == 46) ≡ s → is_some_digits (digits_at bs) ≡ t → AreDigits f
    go true true x y =
        let h : Some (digits_at bs, after_digits bs) ≡ Some (f, r) = sym (ap (λ (s : Bool). cond s (cond (is_some_digits (digits_at bs)) (Some (digits_at bs, after_digits bs)) None) (Some ([], b ∷ bs))) x ∙ ap (λ (t : Bool). cond t (Some (digits_at bs, after_digits bs)) None) y) ∙ e in
        subst (λ (l : List ℕ). AreDigits l) (ap (λ (o : Option (List ℕ × List ℕ)). first_part o) h) (front_digits bs)
    go true false x y =
        let h : None ≡ Some (f, r) = sym (ap (λ (s : Bool). cond s (cond (is_some_digits (digits_at bs)) (Some (digits_at bs, after_digits bs)) None) (Some ([], b ∷ bs))) x ∙ ap (λ (t : Bool). cond t (Some (digits_at bs, after_digits bs)) None) y) ∙ e in
        absurd (none-some (f, r) h)
    go false t x y =
        let h : Some ([], b ∷ bs) ≡ Some (f, r) = sym (ap (λ (s : Bool). cond s (cond (is_some_digits (digits_at bs)) (Some (digits_at bs, after_digits bs)) None) (Some ([], b ∷ bs))) x) ∙ e in
        subst (λ (l : List ℕ). AreDigits l) (ap (λ (o : Option (List ℕ × List ℕ)). first_part o) h) tt

pub read_parts : (minus : Bool) (text whole rest fraction past : List ℕ) (n : ℕ) (e p : ℤ) → n ≡ length (digits_at text) → whole ≡ take n text → rest ≡ drop n text
    → is_whole_part whole ≡ true → fraction_part rest ≡ Some (fraction, past) → exponent_part past ≡ Some e → p ≡ capped_power e → IsRead (unsigned_numeral minus text) minus whole fraction p
read_parts minus text whole rest fraction past n e p m w r i f x c =
    let all : whole ≡ digits_at text = w ∙ front text (prefix_len is_digit text) n m in
    let after : rest ≡ after_digits text = r ∙ ap (λ (k : ℕ). drop k text) m in
    record {
      exponent = e;
      power_is = c;
      numeral_is =
          ap (λ (t : Bool). cond t (with_fraction minus (digits_at text) (after_digits text)) None) (sym (ap is_whole_part all) ∙ i)
          ∙ ap (λ (l : List ℕ). with_fraction minus l (after_digits text)) (sym all) ∙ ap (λ (l : List ℕ). with_fraction minus whole l) (sym after)
          ∙ ap (λ (o : Option (List ℕ × List ℕ)). option_and_then (with_exponent minus whole) o) f
          ∙ ap (λ (o : Option ℤ). option_and_then (λ (e : ℤ). Some (numeral_from minus whole fraction e)) o) x;
      whole_digits = subst (λ (l : List ℕ). AreDigits l) (sym all) (front_digits text);
      fraction_digits = fraction_front rest fraction past f;
    }
