-- The numbers of the grammar are the texts that have a value as numerals.
use Rattle.std.proofs.Common.{ℕ, suc, ◌≡◌, ◌+◌, ◌<◌, ◌≤◌, List, [], ◌∷◌, ◌++◌, Bool, true, false, not, cond, ◌&&◌, ◌||◌, ◌==◌, refl, ap, ◌∙◌, sym, subst, length, take, drop, arith, ℤ, Option, Some, None, is_some, option_and_then, append-nil, take-append-drop, length-take, length-take-le, take_all, true≢false, ◌⊎◌, inl, inr}
use Rattle.std.proofs.lemmas.Bool.{cases_lt}
use Rattle.std.proofs.lemmas.Bool.Decides.{nat_tests, Decides-eqb}
use Rattle.std.proofs.Math.Seq.{drop-append_seam, drop-length}
use Rattle.std.specs.List.{prefix_len}
use Rattle.numerals.specs.Bytes.{is_digit, is_nonzero_digit, is_exponent_letter, NextFails}
use Rattle.numerals.specs.Numbers.{Digits, no_digits, digit, SomeDigits, some_digits, no_minus, minus, Whole, zero_alone, from_one, Fraction, no_fraction, fraction, Exponent, no_exponent, exponent, Sign, no_sign, plus_sign, minus_sign, Number, numeral}
use Rattle.numerals.specs.Numeral.{digits_at, after_digits, number_of, is_some_digits, is_whole_part, has_minus, skip_sign, exponent_digits, exponent_part, numeral_from, signed, unsigned_numeral, with_exponent, with_fraction, numeral_of, Numeral, IsNumeral}
use Rattle.numerals.specs.Scaling.{AreDigits}
use Rattle.numerals.proofs.NumeralParts.{exponent_some, front_digits}

-- ## Digits

are_digits : {ds : List ℕ} → Digits ds → AreDigits ds
are_digits no_digits = tt
are_digits (digit h k) = (h, are_digits k)

digits_are : (ds : List ℕ) → AreDigits ds → Digits ds
digits_are [] h = no_digits
digits_are (b ∷ ds) h = digit h.0 (digits_are ds h.1)

-- digits are the front of a text in which no digit follows them
pub front_all : (ds rest : List ℕ) → AreDigits ds → NextFails is_digit rest → digits_at (ds ++ rest) ≡ ds
front_all [] [] h n = refl
front_all [] (b ∷ bs) h n = ap (λ (t : Bool). take (cond t (1 + prefix_len is_digit bs) 0) (b ∷ bs)) n
front_all (b ∷ ds) rest h n =
    let k : ℕ = prefix_len is_digit (ds ++ rest) in
    let one_more : 1 + k ≡ suc k = omega arith in
    ap (λ (t : Bool). take (cond t (1 + k) 0) (b ∷ (ds ++ rest))) h.0 ∙ ap (λ (m : ℕ). take m (b ∷ (ds ++ rest))) one_more ∙ ap (λ (l : List ℕ). b ∷ l) (front_all ds rest h.1 n)

pub after_all : (ds rest : List ℕ) → AreDigits ds → NextFails is_digit rest → after_digits (ds ++ rest) ≡ rest
after_all ds rest h n = ap (λ (l : List ℕ). drop (length l) (ds ++ rest)) (front_all ds rest h n) ∙ drop-append_seam ds rest

-- ## A number of the grammar has a value

digit_no_sign : (b : ℕ) → is_digit b ≡ true → ((b == 45) || (b == 43)) ≡ false
digit_no_sign b h = grind (arith, nat_tests)

letter_no_digit : (b : ℕ) → is_exponent_letter b ≡ true → is_digit b ≡ false
letter_no_digit b h = grind (arith, nat_tests)

letter_no_point : (b : ℕ) → is_exponent_letter b ≡ true → (b == 46) ≡ false
letter_no_point b h = grind (arith, nat_tests)

exponent_digits_is : (m : Bool) {ds : List ℕ} → SomeDigits ds → is_some (exponent_digits m ds) ≡ true
exponent_digits_is m (some_digits {b = b} {ds = ds} h k) =
    let all : digits_at (b ∷ ds) ≡ b ∷ ds = ap (λ (l : List ℕ). digits_at l) (sym (append-nil (b ∷ ds))) ∙ front_all (b ∷ ds) [] (h, are_digits k) tt in
    ap (λ (o : Option ℤ). is_some o) (exponent_some m (b ∷ ds) (λ e. absurd (omega (arith, e))) (omega (arith, ap (λ (l : List ℕ). length l) all)))

no_sign_skipped : {ds : List ℕ} → SomeDigits ds → skip_sign ds ≡ ds
no_sign_skipped (some_digits {b = b} {ds = ds} h k) = ap (λ (t : Bool). cond t ds (b ∷ ds)) (digit_no_sign b h)

signed_is : {s ds : List ℕ} → Sign s → SomeDigits ds → is_some (exponent_digits (has_minus (s ++ ds)) (skip_sign (s ++ ds))) ≡ true
signed_is {ds = ds} no_sign d = ap (λ (l : List ℕ). is_some (exponent_digits (has_minus ds) l)) (no_sign_skipped d) ∙ exponent_digits_is (has_minus ds) d
signed_is plus_sign d = exponent_digits_is false d
signed_is minus_sign d = exponent_digits_is true d

exponent_is : {e : List ℕ} → Exponent e → is_some (exponent_part e) ≡ true
exponent_is no_exponent = refl
exponent_is (exponent {e = e} {s = s} {ds = ds} h sign d) = ap (λ (t : Bool). is_some (cond t (exponent_digits (has_minus (s ++ ds)) (skip_sign (s ++ ds))) None)) h ∙ signed_is sign d

exponent_no_digit : {e : List ℕ} → Exponent e → NextFails is_digit e
exponent_no_digit no_exponent = tt
exponent_no_digit (exponent {e = e} h sign d) = letter_no_digit e h

-- an exponent goes on with a value
with_some : (m : Bool) (w f r : List ℕ) → is_some (exponent_part r) ≡ true → is_some (with_exponent m w (f, r)) ≡ true
with_some m w f r h = go (exponent_part r) h
  where
    go : (o : Option ℤ) → is_some o ≡ true → is_some (option_and_then (λ (e : ℤ). Some (numeral_from m w f e)) o) ≡ true
    go (Some e) h = refl
    go None h = absurd (true≢false (sym h))

fraction_is : (m : Bool) (w : List ℕ) {f e : List ℕ} → Fraction f → Exponent e → is_some (with_fraction m w (f ++ e)) ≡ true
fraction_is m w no_fraction no_exponent = refl
fraction_is m w no_fraction (exponent {e = e} {s = s} {ds = ds} h sign d) =
    ap (λ (t : Bool). is_some (option_and_then (with_exponent m w) (cond t (cond (is_some_digits (digits_at (s ++ ds))) (Some (digits_at (s ++ ds), after_digits (s ++ ds))) None) (Some ([], e ∷ (s ++ ds)))))) (letter_no_point e h)
    ∙ with_some m w [] (e ∷ (s ++ ds)) (exponent_is (exponent {e = e} h sign d))
fraction_is m w {e = e} (fraction (some_digits {b = b} {ds = ds} h k)) x =
    let all : digits_at (b ∷ (ds ++ e)) ≡ b ∷ ds = front_all (b ∷ ds) e (h, are_digits k) (exponent_no_digit x) in
    let past : after_digits (b ∷ (ds ++ e)) ≡ e = after_all (b ∷ ds) e (h, are_digits k) (exponent_no_digit x) in
    ap (λ (l : List ℕ). is_some (option_and_then (with_exponent m w) (cond (is_some_digits l) (Some (l, after_digits (b ∷ (ds ++ e)))) None))) all
    ∙ ap (λ (l : List ℕ). is_some (with_exponent m w (b ∷ ds, l))) past ∙ with_some m w (b ∷ ds) e (exponent_is x)

fraction_no_digit : {f e : List ℕ} → Fraction f → Exponent e → NextFails is_digit (f ++ e)
fraction_no_digit no_fraction x = exponent_no_digit x
fraction_no_digit (fraction d) x = refl

nonzero_digit : (b : ℕ) → is_nonzero_digit b ≡ true → is_digit b ≡ true
nonzero_digit b h = grind (arith, nat_tests)

nonzero_not_zero : (b : ℕ) → is_nonzero_digit b ≡ true → not (b == 48) ≡ true
nonzero_not_zero b h = grind (arith, nat_tests)

whole_digits : {w : List ℕ} → Whole w → AreDigits w × (is_whole_part w ≡ true)
whole_digits zero_alone = ((refl, tt), refl)
whole_digits (from_one {b = b} {ds = ds} h k) = ((nonzero_digit b h, are_digits k), part b ds h)
  where
    part : (b : ℕ) (ds : List ℕ) → is_nonzero_digit b ≡ true → is_whole_part (b ∷ ds) ≡ true
    part b [] h = refl
    part b (c ∷ ds) h = nonzero_not_zero b h

unsigned_is : (m : Bool) {w f e : List ℕ} → Whole w → Fraction f → Exponent e → is_some (unsigned_numeral m (w ++ (f ++ e))) ≡ true
unsigned_is m {w = w} {f = f} {e = e} x y z =
    let d = whole_digits x in
    let front : digits_at (w ++ (f ++ e)) ≡ w = front_all w (f ++ e) d.0 (fraction_no_digit y z) in
    let past : after_digits (w ++ (f ++ e)) ≡ f ++ e = after_all w (f ++ e) d.0 (fraction_no_digit y z) in
    ap (λ (l : List ℕ). is_some (cond (is_whole_part l) (with_fraction m l (after_digits (w ++ (f ++ e)))) None)) front
    ∙ ap (λ (l : List ℕ). is_some (cond (is_whole_part w) (with_fraction m w l) None)) past
    ∙ ap (λ (t : Bool). is_some (cond t (with_fraction m w (f ++ e)) None)) d.1
    ∙ fraction_is m w y z

digit_no_minus : (b : ℕ) → is_digit b ≡ true → (b == 45) ≡ false
digit_no_minus b h = grind (arith, nat_tests)

whole_no_minus : {w : List ℕ} (rest : List ℕ) → Whole w → numeral_of (w ++ rest) ≡ unsigned_numeral false (w ++ rest)
unfolding numeral_of
whole_no_minus rest zero_alone = refl
whole_no_minus rest (from_one {b = b} {ds = ds} h k) = ap (λ (t : Bool). cond t (unsigned_numeral true (ds ++ rest)) (unsigned_numeral false (b ∷ (ds ++ rest)))) (digit_no_minus b (nonzero_digit b h))

minus_taken : (rest : List ℕ) → numeral_of (45 ∷ rest) ≡ unsigned_numeral true rest
unfolding numeral_of
minus_taken rest = refl

pub number_has_value : (t : List ℕ) → Number t → IsNumeral t
number_has_value t (numeral {w = w} {f = f} {e = e} no_minus x y z) = ap (λ (o : Option Numeral). is_some o) (whole_no_minus (f ++ e) x) ∙ unsigned_is false x y z
number_has_value t (numeral {w = w} {f = f} {e = e} minus x y z) = ap (λ (o : Option Numeral). is_some o) (minus_taken (w ++ (f ++ e))) ∙ unsigned_is true x y z

-- ## A numeral is a number of the grammar

split_digits : (t : List ℕ) → digits_at t ++ after_digits t ≡ t
split_digits t = go (cases_lt (length t) (prefix_len is_digit t))
  where
    go : (length t < prefix_len is_digit t) ⊎ (prefix_len is_digit t ≤ length t) → digits_at t ++ after_digits t ≡ t
    go (inl l) =
        let all : digits_at t ≡ t = take_all (prefix_len is_digit t) t (omega arith) in
        ap (λ (x : List ℕ). x ++ drop (length x) t) all ∙ ap (λ (x : List ℕ). t ++ x) (drop-length t) ∙ append-nil t
    go (inr l) = ap (λ (n : ℕ). digits_at t ++ drop n t) (length-take-le (prefix_len is_digit t) t l) ∙ take-append-drop (prefix_len is_digit t) t

some_from : (t : List ℕ) → AreDigits t → is_some_digits t ≡ true → SomeDigits t
some_from [] h e = absurd (true≢false (sym e))
some_from (b ∷ bs) h e = some_digits h.0 (digits_are bs h.1)

none_is_not : false ≡ true → ⊥
none_is_not e = true≢false (sym e)

digits_back : (m : Bool) (t : List ℕ) → is_some (exponent_digits m t) ≡ true → SomeDigits t
digits_back m t h = go (is_some_digits (digits_at t)) (length (digits_at t) == length t) refl refl
  where
    go : (a b : Bool) → is_some_digits (digits_at t) ≡ a → (length (digits_at t) == length t) ≡ b → SomeDigits t
    go false b x y = absurd (none_is_not (sym (ap (λ (a : Bool). is_some (cond (a && (length (digits_at t) == length t)) (Some (signed m (number_of (digits_at t)))) None)) x) ∙ h))
    go true false x y = absurd (none_is_not (sym (ap (λ (a : Bool). is_some (cond (a && (length (digits_at t) == length t)) (Some (signed m (number_of (digits_at t)))) None)) x ∙ ap (λ (b : Bool). is_some (cond b (Some (signed m (number_of (digits_at t)))) None)) y) ∙ h))
    go true true x y =
        let long : length (digits_at t) ≡ length t = (Decides-eqb (length (digits_at t)) (length t)).0 y in
        let all : digits_at t ≡ t = take_all (prefix_len is_digit t) t (omega (arith, long, length-take (prefix_len is_digit t) t)) in
        some_from t (subst (λ (l : List ℕ). AreDigits l) all (front_digits t)) (sym (ap is_some_digits all) ∙ x)

sign_back : (rest : List ℕ) → (s : List ℕ) × (s ++ skip_sign rest ≡ rest) × Sign s
sign_back [] = ([], refl, no_sign)
sign_back (c ∷ cs) = go (c == 45) (c == 43) refl refl
  where
    go : (a b : Bool) → (c == 45) ≡ a → (c == 43) ≡ b → (s : List ℕ) × (s ++ skip_sign (c ∷ cs) ≡ c ∷ cs) × Sign s
    go true b x y =
        let is : c ≡ 45 = (Decides-eqb c 45).0 x in
        (45 ∷ [], ap (λ (a : Bool). 45 ∷ cond (a || (c == 43)) cs (c ∷ cs)) x ∙ ap (λ (n : ℕ). n ∷ cs) (sym is), minus_sign)
    go false true x y =
        let is : c ≡ 43 = (Decides-eqb c 43).0 y in
        (43 ∷ [], ap (λ (a : Bool). 43 ∷ cond (a || (c == 43)) cs (c ∷ cs)) x ∙ ap (λ (a : Bool). 43 ∷ cond a cs (c ∷ cs)) y ∙ ap (λ (n : ℕ). n ∷ cs) (sym is), plus_sign)
    go false false x y =
        ([], ap (λ (a : Bool). cond (a || (c == 43)) cs (c ∷ cs)) x ∙ ap (λ (a : Bool). cond a cs (c ∷ cs)) y, no_sign)

exponent_back : (r : List ℕ) → is_some (exponent_part r) ≡ true → Exponent r
exponent_back [] h = no_exponent
exponent_back (b ∷ rest) h = go (is_exponent_letter b) refl
  where
    go : (t : Bool) → is_exponent_letter b ≡ t → Exponent (b ∷ rest)
    go false e = absurd (none_is_not (sym (ap (λ (t : Bool). is_some (cond t (exponent_digits (has_minus rest) (skip_sign rest)) None)) e) ∙ h))
    go true e =
        let s = sign_back rest in
        let d : SomeDigits (skip_sign rest) = digits_back (has_minus rest) (skip_sign rest) (sym (ap (λ (t : Bool). is_some (cond t (exponent_digits (has_minus rest) (skip_sign rest)) None)) e) ∙ h) in
        subst (λ (l : List ℕ). Exponent (b ∷ l)) s.1 (exponent {e = b} e s.2 d)

some_with : (m : Bool) (w f r : List ℕ) → is_some (with_exponent m w (f, r)) ≡ true → is_some (exponent_part r) ≡ true
some_with m w f r h = go (exponent_part r) h
  where
    go : (o : Option ℤ) → is_some (option_and_then (λ (e : ℤ). Some (numeral_from m w f e)) o) ≡ true → is_some o ≡ true
    go (Some e) h = refl
    go None h = h

abbrev Rest : List ℕ → Type 0
Rest t = (f e : List ℕ) × (f ++ e ≡ t) × Fraction f × Exponent e

fraction_back : (m : Bool) (w t : List ℕ) → is_some (with_fraction m w t) ≡ true → Rest t
fraction_back m w [] h = ([], [], refl, no_fraction, no_exponent)
fraction_back m w (b ∷ rest) h = go (b == 46) (is_some_digits (digits_at rest)) refl refl
  where
    whole : Bool → Bool → Option (List ℕ × List ℕ)
    whole a c = cond a (cond c (Some (digits_at rest, after_digits rest)) None) (Some ([], b ∷ rest))

    go : (a c : Bool) → (b == 46) ≡ a → is_some_digits (digits_at rest) ≡ c → Rest (b ∷ rest)
    go true true x y =
        let is : b ≡ 46 = (Decides-eqb b 46).0 x in
        let k : is_some (with_exponent m w (digits_at rest, after_digits rest)) ≡ true = sym (ap (λ (a : Bool). is_some (option_and_then (with_exponent m w) (cond a (cond (is_some_digits (digits_at rest)) (Some (digits_at rest, after_digits rest)) None) (Some ([], b ∷ rest))))) x ∙ ap (λ (c : Bool). is_some (option_and_then (with_exponent m w) (cond c (Some (digits_at rest, after_digits rest)) None))) y) ∙ h in
        (46 ∷ digits_at rest, after_digits rest, ap (λ (l : List ℕ). 46 ∷ l) (split_digits rest) ∙ ap (λ (n : ℕ). n ∷ rest) (sym is), fraction (some_from (digits_at rest) (front_digits rest) y), exponent_back (after_digits rest) (some_with m w (digits_at rest) (after_digits rest) k))
    go true false x y = absurd (none_is_not (sym (ap (λ (a : Bool). is_some (option_and_then (with_exponent m w) (cond a (cond (is_some_digits (digits_at rest)) (Some (digits_at rest, after_digits rest)) None) (Some ([], b ∷ rest))))) x ∙ ap (λ (c : Bool). is_some (option_and_then (with_exponent m w) (cond c (Some (digits_at rest, after_digits rest)) None))) y) ∙ h))
    go false c x y =
        let k : is_some (with_exponent m w ([], b ∷ rest)) ≡ true = sym (ap (λ (a : Bool). is_some (option_and_then (with_exponent m w) (cond a (cond (is_some_digits (digits_at rest)) (Some (digits_at rest, after_digits rest)) None) (Some ([], b ∷ rest))))) x) ∙ h in
        ([], b ∷ rest, refl, no_fraction, exponent_back (b ∷ rest) (some_with m w [] (b ∷ rest) k))

zero_or_not : (b : ℕ) → is_digit b ≡ true → (b == 48) ≡ false → is_nonzero_digit b ≡ true
zero_or_not b h e = grind (arith, nat_tests)

whole_back : (w : List ℕ) → AreDigits w → is_whole_part w ≡ true → Whole w
whole_back [] h e = absurd (true≢false (sym e))
whole_back (b ∷ []) h e = go (b == 48) refl
  where
    go : (t : Bool) → (b == 48) ≡ t → Whole (b ∷ [])
    go true x = subst (λ (n : ℕ). Whole (n ∷ [])) (sym ((Decides-eqb b 48).0 x)) zero_alone
    go false x = from_one (zero_or_not b h.0 x) no_digits
whole_back (b ∷ c ∷ ds) h e = go (b == 48) refl
  where
    go : (t : Bool) → (b == 48) ≡ t → Whole (b ∷ c ∷ ds)
    go true x = absurd (true≢false (sym e ∙ ap (λ (t : Bool). not t) x))
    go false x = from_one (zero_or_not b h.0 x) (digits_are (c ∷ ds) h.1)

unsigned_back : (m : Bool) (u : List ℕ) → is_some (unsigned_numeral m u) ≡ true → (w f e : List ℕ) × (w ++ (f ++ e) ≡ u) × Whole w × Fraction f × Exponent e
unsigned_back m u h = go (is_whole_part (digits_at u)) refl
  where
    go : (t : Bool) → is_whole_part (digits_at u) ≡ t → (w f e : List ℕ) × (w ++ (f ++ e) ≡ u) × Whole w × Fraction f × Exponent e
    go false x = absurd (none_is_not (sym (ap (λ (t : Bool). is_some (cond t (with_fraction m (digits_at u) (after_digits u)) None)) x) ∙ h))
    go true x =
        let r = fraction_back m (digits_at u) (after_digits u) (sym (ap (λ (t : Bool). is_some (cond t (with_fraction m (digits_at u) (after_digits u)) None)) x) ∙ h) in
        (digits_at u, r.0, r.1, ap (λ (l : List ℕ). digits_at u ++ l) r.2 ∙ split_digits u, whole_back (digits_at u) (front_digits u) x, r.3, r.4)

pub numeral_is_number : (t : List ℕ) → IsNumeral t → Number t
unfolding numeral_of
numeral_is_number [] h = absurd (none_is_not h)
numeral_is_number (b ∷ rest) h = go (b == 45) refl
  where
    go : (t : Bool) → (b == 45) ≡ t → Number (b ∷ rest)
    go true x =
        let r = unsigned_back true rest (sym (ap (λ (t : Bool). is_some (cond t (unsigned_numeral true rest) (unsigned_numeral false (b ∷ rest)))) x) ∙ h) in
        subst (λ (l : List ℕ). Number l) (ap (λ (l : List ℕ). 45 ∷ l) r.3 ∙ ap (λ (n : ℕ). n ∷ rest) (sym ((Decides-eqb b 45).0 x))) (numeral minus r.4 r.5 r.6)
    go false x =
        let r = unsigned_back false (b ∷ rest) (sym (ap (λ (t : Bool). is_some (cond t (unsigned_numeral true rest) (unsigned_numeral false (b ∷ rest)))) x) ∙ h) in
        subst (λ (l : List ℕ). Number l) r.3 (numeral no_minus r.4 r.5 r.6)
