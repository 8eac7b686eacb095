-- Numbers and ends of values, one byte more.
use Rattle.std.proofs.Common.{ℕ, ◌++◌, List, [], ◌∷◌, IsTrue, refl, ap, ◌∙◌, sym, subst, ⊎_elim, eqb}
use Rattle.numerals.specs.Bytes.{is_white, is_digit, is_nonzero_digit, is_exponent_letter}
use Rattle.json_values.specs.Grammar.{no_white}
use Rattle.numerals.specs.Numbers.{Digits, no_digits, digit, SomeDigits, some_digits, Minus, no_sign, plus_sign, minus_sign, zero_alone, from_one, no_fraction, fraction, Exponent, no_exponent, exponent, Number, numeral}
use Rattle.json_read.specs.Machine.{Open, in_array, in_object, ends, ends_item, exponent_or_end, point_or_end, begins_whole, step, after_letter, after_sign, in_exponent, in_whole, in_fraction, after_point}
use Rattle.reading_laws.proofs.JsonRests.{Then, then_none, then_more, After, shuts_array, next_element, shuts_object, next_member, after_white, elements_of, members_of, FromPoint, FromWhole, InWhole, AfterPoint, InFraction, AfterLetter, Later, split, at_byte}

-- ## After a value

item_ends : (d : ℕ) (k : List Open) (b : ℕ) (s : List ℕ) → Later d s (ends_item k b) → After d k (b ∷ s)
item_ends d [] b s h = absurd h
item_ends d (in_array ∷ k) b s h =
    ⊎_elim
    (λ p. at_byte (λ (x : ℕ). After d (in_array ∷ k) (x ∷ s)) b 44 p.0 (let (t, s1, e, (vs, es), (rest, f, a)) = elements_of d k s p.1 in next_element no_white es a (ap (λ (z : List ℕ). 44 ∷ z) (e ∙ ap (λ (z : List ℕ). t ++ z) f))))
    (λ p. ⊎_elim (λ q. at_byte (λ (x : ℕ). After d (in_array ∷ k) (x ∷ s)) b 93 q.0 (shuts_array no_white q.1 refl)) (λ q. absurd (q.1)) (split (Later d s) (eqb b 93) _ _ p.1))
    (split (Later d s) (eqb b 44) _ _ h)
item_ends d (in_object ∷ k) b s h =
    ⊎_elim
    (λ p. at_byte (λ (x : ℕ). After d (in_object ∷ k) (x ∷ s)) b 44 p.0 (let (t, s1, e, (ms, es), (rest, f, a)) = members_of d k s p.1 in next_member no_white es a (ap (λ (z : List ℕ). 44 ∷ z) (e ∙ ap (λ (z : List ℕ). t ++ z) f))))
    (λ p. ⊎_elim (λ q. at_byte (λ (x : ℕ). After d (in_object ∷ k) (x ∷ s)) b 125 q.0 (shuts_object no_white q.1 refl)) (λ q. absurd (q.1)) (split (Later d s) (eqb b 125) _ _ p.1))
    (split (Later d s) (eqb b 44) _ _ h)

pub ends_back : (d : ℕ) (k : List Open) (b : ℕ) (s : List ℕ) → Later d s (ends k b) → After d k (b ∷ s)
ends_back d k b s h = ⊎_elim (λ p. after_white b p.0 p.1) (λ p. item_ends d k b s p.1) (split (Later d s) (is_white b) _ _ h)

-- ## Numbers

letter_then : (b : ℕ) → IsTrue (is_exponent_letter b) → (t : List ℕ) → AfterLetter t → Exponent (b ∷ t)
letter_then b i t (g, ds, e, hg, hd) = subst (λ (z : List ℕ). Exponent (b ∷ z)) (sym e) (exponent i hg hd)

pub exponent_back : (d : ℕ) (k : List Open) (b : ℕ) (s : List ℕ) → Later d s (exponent_or_end k b) → Then Exponent (After d k) (b ∷ s)
exponent_back d k b s h = ⊎_elim
    (λ p. then_more AfterLetter Exponent (After d k) b (letter_then b p.0) p.1)
    (λ p. then_none Exponent (After d k) no_exponent (ends_back d k b s p.1))
    (split (Later d s) (is_exponent_letter b) _ _ h)

point_then : (t : List ℕ) → AfterPoint t → FromPoint (46 ∷ t)
point_then t (ds, x, e, hd, hx) = (46 ∷ ds, x, ap (λ (z : List ℕ). 46 ∷ z) e, fraction hd, hx)

exponent_as : (t : List ℕ) → Exponent t → FromPoint t
exponent_as t h = ([], t, refl, no_fraction, h)

then_as : (Q R S : List ℕ → Type 0) {s : List ℕ} → ((t : List ℕ) → Q t → R t) → Then Q S s → Then R S s
then_as Q R S f h = (h.0, h.1, h.2, f h.0 h.3, h.4)

pub point_back : (d : ℕ) (k : List Open) (b : ℕ) (s : List ℕ) → Later d s (point_or_end k b) → Then FromPoint (After d k) (b ∷ s)
point_back d k b s h = ⊎_elim
    (λ p. at_byte (λ (x : ℕ). Then FromPoint (After d k) (x ∷ s)) b 46 p.0 (then_more AfterPoint FromPoint (After d k) 46 point_then p.1))
    (λ p. then_as Exponent FromPoint (After d k) exponent_as (exponent_back d k b s p.1))
    (split (Later d s) (eqb b 46) _ _ h)

pub whole_back : (d : ℕ) (k : List Open) (b : ℕ) (s : List ℕ) → Later d s (step d in_whole k b) → Then InWhole (After d k) (b ∷ s)
whole_back d k b s h = ⊎_elim
    (λ p. then_more InWhole InWhole (After d k) b (λ t (ds, more, e, hd, hm). (b ∷ ds, more, ap (λ (z : List ℕ). b ∷ z) e, digit p.0 hd, hm)) p.1)
    (λ p. then_as FromPoint InWhole (After d k) (λ t h. ([], t, refl, no_digits, h)) (point_back d k b s p.1))
    (split (Later d s) (is_digit b) _ _ h)

pub fraction_back : (d : ℕ) (k : List Open) (b : ℕ) (s : List ℕ) → Later d s (step d in_fraction k b) → Then InFraction (After d k) (b ∷ s)
fraction_back d k b s h = ⊎_elim
    (λ p. then_more InFraction InFraction (After d k) b (λ t (ds, x, e, hd, hx). (b ∷ ds, x, ap (λ (z : List ℕ). b ∷ z) e, digit p.0 hd, hx)) p.1)
    (λ p. then_as Exponent InFraction (After d k) (λ t h. ([], t, refl, no_digits, h)) (exponent_back d k b s p.1))
    (split (Later d s) (is_digit b) _ _ h)

pub point_digit_back : (d : ℕ) (k : List Open) (b : ℕ) (s : List ℕ) → Later d s (step d after_point k b) → Then AfterPoint (After d k) (b ∷ s)
point_digit_back d k b s h = ⊎_elim
    (λ p. then_more InFraction AfterPoint (After d k) b (λ t (ds, x, e, hd, hx). (b ∷ ds, x, ap (λ (z : List ℕ). b ∷ z) e, some_digits p.0 hd, hx)) p.1)
    (λ p. absurd (p.1))
    (split (Later d s) (is_digit b) _ _ h)

pub some_digits_back : (d : ℕ) (k : List Open) (b : ℕ) (s : List ℕ) → Later d s (step d after_sign k b) → Then SomeDigits (After d k) (b ∷ s)
some_digits_back d k b s h = ⊎_elim
    (λ p. then_more Digits SomeDigits (After d k) b (λ t hd. some_digits p.0 hd) p.1)
    (λ p. absurd (p.1))
    (split (Later d s) (is_digit b) _ _ h)

pub digits_back : (d : ℕ) (k : List Open) (b : ℕ) (s : List ℕ) → Later d s (step d in_exponent k b) → Then Digits (After d k) (b ∷ s)
digits_back d k b s h = ⊎_elim
    (λ p. then_more Digits Digits (After d k) b (λ t hd. digit p.0 hd) p.1)
    (λ p. then_none Digits (After d k) no_digits (ends_back d k b s p.1))
    (split (Later d s) (is_digit b) _ _ h)

pub letter_back : (d : ℕ) (k : List Open) (b : ℕ) (s : List ℕ) → Later d s (step d after_letter k b) → Then AfterLetter (After d k) (b ∷ s)
letter_back d k b s h = ⊎_elim
    (λ p. at_byte (λ (x : ℕ). Then AfterLetter (After d k) (x ∷ s)) b 43 p.0 (then_more SomeDigits AfterLetter (After d k) 43 (λ t hd. (43 ∷ [], t, refl, plus_sign, hd)) p.1))
    (λ p. ⊎_elim
    (λ q. at_byte (λ (x : ℕ). Then AfterLetter (After d k) (x ∷ s)) b 45 q.0 (then_more SomeDigits AfterLetter (After d k) 45 (λ t hd. (45 ∷ [], t, refl, minus_sign, hd)) q.1))
    (λ q. then_as SomeDigits AfterLetter (After d k) (λ t hd. ([], t, refl, no_sign, hd)) (some_digits_back d k b s q.1))
    (split (Later d s) (eqb b 45) _ _ p.1))
    (split (Later d s) (eqb b 43) _ _ h)

pub begins_whole_back : (d : ℕ) (k : List Open) (b : ℕ) (s : List ℕ) → Later d s (begins_whole k b) → Then FromWhole (After d k) (b ∷ s)
begins_whole_back d k b s h = ⊎_elim
    (λ p. at_byte (λ (x : ℕ). Then FromWhole (After d k) (x ∷ s)) b 48 p.0 (then_more FromPoint FromWhole (After d k) 48 (λ t hf. (48 ∷ [], t, refl, zero_alone, hf)) p.1))
    (λ p. ⊎_elim
    (λ q. then_more InWhole FromWhole (After d k) b (λ t (ds, more, e, hd, hm). (b ∷ ds, more, ap (λ (z : List ℕ). b ∷ z) e, from_one q.0 hd, hm)) q.1)
    (λ q. absurd (q.1))
    (split (Later d s) (is_nonzero_digit b) _ _ p.1))
    (split (Later d s) (eqb b 48) _ _ h)

pub number_of : {m : List ℕ} (t : List ℕ) → Minus m → FromWhole t → Number (m ++ t)
number_of {m} t hm (w, more, e, hw, (f, x, g, hf, hx)) = subst (λ (z : List ℕ). Number (m ++ z)) (sym (e ∙ ap (λ (z : List ℕ). w ++ z) g)) (numeral hm hw hf hx)
