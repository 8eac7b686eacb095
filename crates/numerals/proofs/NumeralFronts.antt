-- Plain numerals at the front of a text.
use Rattle.std.proofs.Common.{ℕ, zero, suc, ◌≡◌, ◌+◌, ◌≤◌, ◌<◌, List, [], ◌∷◌, ◌++◌, Bool, true, false, refl, ap, ◌∙◌, sym, subst, length, take, drop, arith, ℤ, pos, ◌-ℤ◌, Option, Some, None, append-nil, length-drop, length-take-le, cond, eqb, option_and_then, ◌⊎◌, inl, inr}
use Rattle.std.specs.Prelude.{if◌then◌else◌, IfSome}
use Rattle.std.proofs.Math.Seq.{take-add}
use Rattle.std.proofs.lemmas.Bool.{cases_lt, cond-false, ne_eqb}
use Rattle.std.proofs.lemmas.List.{drop-drop, take-take}
use Rattle.std.specs.List.{prefix_len}
use Rattle.numerals.specs.Bytes.{is_digit}
use Rattle.numerals.specs.Numeral.{Numeral, digits_at, after_digits, fraction_part, grid_at, grid_of_text, is_some_digits, is_whole_part, number_of, number_onto, numeral_from, numeral_of, signed, unsigned_numeral, with_fraction, with_exponent}
use Rattle.numerals.specs.Plain.{FrontFraction, HasFraction, IsGridFront, IsPlain, IsPlainFront, IsUnsignedFront, is_numeric, plain_numeral}
use Rattle.numerals.specs.Bytes.{NextFails}
use Rattle.numerals.specs.Scaling.{AreDigits}
use Rattle.numerals.specs.declared.plain_numeral.Plain.{Plain}
use Rattle.numerals.proofs.NumbersAreNumerals.{front_all, after_all}
use Rattle.numerals.proofs.NumeralParts.{front, front_digits}
use Rattle.numerals.proofs.Scaling.{number_onto-append}

-- ## Digits at the front

digits_front : (n : ℕ) (xs : List ℕ) → n ≡ length (digits_at xs) → take n xs ≡ digits_at xs
digits_front n xs e = front xs (prefix_len is_digit xs) n e

fails_after : (xs : List ℕ) → NextFails is_digit (drop (prefix_len is_digit xs) xs)
fails_after [] = tt
fails_after (b ∷ bs) = go (is_digit b) refl (fails_after bs)
  where
    go : (t : Bool) → is_digit b ≡ t → NextFails is_digit (drop (prefix_len is_digit bs) bs) → NextFails is_digit (drop (prefix_len is_digit (b ∷ bs)) (b ∷ bs))
    go true e h =
        let k : ℕ = prefix_len is_digit bs in
        let one_more : 1 + k ≡ suc k = omega arith in
        subst (λ (n : ℕ). NextFails is_digit (drop n (b ∷ bs))) (sym (ap (λ (t : Bool). cond t (1 + k) 0) e ∙ one_more)) h
    go false e h = subst (λ (n : ℕ). NextFails is_digit (drop n (b ∷ bs))) (sym (ap (λ (t : Bool). cond t (1 + prefix_len is_digit bs) 0) e)) e

within : (xs : List ℕ) → prefix_len is_digit xs ≤ length xs
within [] = omega arith
within (b ∷ bs) = go (is_digit b) refl (within bs)
  where
    go : (t : Bool) → is_digit b ≡ t → prefix_len is_digit bs ≤ length bs → prefix_len is_digit (b ∷ bs) ≤ length (b ∷ bs)
    go true e l = subst (λ (n : ℕ). n ≤ length (b ∷ bs)) (sym (ap (λ (t : Bool). cond t (1 + prefix_len is_digit bs) 0) e)) (omega arith)
    go false e l = subst (λ (n : ℕ). n ≤ length (b ∷ bs)) (sym (ap (λ (t : Bool). cond t (1 + prefix_len is_digit bs) 0) e)) (omega arith)

no_digit_after : (n : ℕ) (xs : List ℕ) → n ≡ length (digits_at xs) → NextFails is_digit (drop n xs)
no_digit_after n xs e = subst (λ (m : ℕ). NextFails is_digit (drop m xs)) (sym (e ∙ length-take-le (prefix_len is_digit xs) xs (within xs))) (fails_after xs)

fails_at_front : (n : ℕ) (xs : List ℕ) → NextFails is_digit xs → NextFails is_digit (take n xs)
fails_at_front zero [] h = tt
fails_at_front zero (x ∷ xs) h = tt
fails_at_front (suc n) [] h = tt
fails_at_front (suc n) (x ∷ xs) h = h

-- ## Fractions

whole_fraction : (ds : List ℕ) → AreDigits ds → (length ds ≡ 0 → ⊥) → fraction_part (46 ∷ ds) ≡ Some (ds, [])
whole_fraction [] a n = absurd (n refl)
whole_fraction (b ∷ ds) a n =
    let all : digits_at (b ∷ ds) ≡ b ∷ ds = sym (ap digits_at (append-nil (b ∷ ds))) ∙ front_all (b ∷ ds) [] a tt in
    let none : after_digits (b ∷ ds) ≡ [] = sym (ap after_digits (append-nil (b ∷ ds))) ∙ after_all (b ∷ ds) [] a tt in
    (λ i. if is_some_digits (all i) then Some (all i, none i) else None)

pub is_fraction : (n number count : ℕ) (past : List ℕ) → number ≡ number_onto n (take count past) → count ≡ length (digits_at past) → (count ≡ 0 → ⊥) → count ≤ 18 → HasFraction n (46 ∷ take count past) number count
is_fraction n number count past v c some few =
    let is : take count past ≡ digits_at past = digits_front count past c in
    record {
      digits = take count past;
      fraction_is = subst (λ (ds : List ℕ). fraction_part (46 ∷ ds) ≡ Some (ds, [])) (sym is) (whole_fraction (digits_at past) (front_digits past) (λ e. some (c ∙ e)));
      number_is = v;
      count_is = c ∙ ap length (sym is);
      few = few;
    }

pub point_front : (n number count : ℕ) (text past : List ℕ) → text ≡ 46 ∷ past → HasFraction n (46 ∷ take count past) number count → NextFails is_numeric (drop count past) → count ≤ length past → FrontFraction n text number count (count + 1)
point_front n number count text past e h next l =
    let whole : FrontFraction n (46 ∷ past) number count (suc count) = (h, next, omega arith) in
    let s : suc count ≡ count + 1 = omega arith in
    subst (λ (t : List ℕ). FrontFraction n t number count (count + 1)) (sym e) (subst (λ (size : ℕ). FrontFraction n (46 ∷ past) number count size) s whole)

pub no_point_front : (n : ℕ) (text : List ℕ) → NextFails is_numeric text → FrontFraction n text n 0 0
no_point_front n [] h = (record { digits = []; fraction_is = refl; number_is = refl; count_is = refl; few = omega arith }, h, omega arith)
no_point_front n (x ∷ xs) h = (record { digits = []; fraction_is = refl; number_is = refl; count_is = refl; few = omega arith }, h, omega arith)

-- ## Numerals

abbrev numeral_at : ℤ → ℕ → Numeral
numeral_at m fraction = record { mantissa = m; exponent = pos 0 -ℤ pos fraction }

abbrev with_whole : Bool → Bool → List ℕ → List ℕ → Option Numeral
with_whole is_whole minus whole rest = if is_whole then with_fraction minus whole rest else None

pub unsigned_front : (minus : Bool) (text whole rest : List ℕ) (n count number fraction size : ℕ)
    → n ≡ number_onto 0 (take count text) → count ≡ length (digits_at text) → count ≤ length text → whole ≡ take count text → rest ≡ drop count text → is_whole_part whole ≡ true
    → FrontFraction n rest number fraction size → IsUnsignedFront minus text (record { minus = minus; number = number; fraction = fraction }) (count + size)
unsigned_front minus text whole rest n count number fraction size v c l whole_is rest_is is_whole h =
    let ds : List ℕ = digits_at text in
    let digits : AreDigits ds = front_digits text in
    let front_is : take count text ≡ ds = digits_front count text c in
    let f : List ℕ = take size rest in
    let fr : HasFraction n f number fraction = h.0 in
    let text_is : take (count + size) text ≡ ds ++ f = take-add count size text ∙ (λ i. front_is i ++ take size (sym rest_is i)) in
    let next : NextFails is_digit f = fails_at_front size rest (subst (λ (ys : List ℕ). NextFails is_digit ys) (sym rest_is) (no_digit_after count text c)) in
    let whole_there : is_whole_part ds ≡ true = ap is_whole_part (sym (whole_is ∙ front_is)) ∙ is_whole in
    let all : digits_at (ds ++ f) ≡ ds = front_all ds f digits next in
    let past : after_digits (ds ++ f) ≡ f = after_all ds f digits next in
    let numeral : unsigned_numeral minus (ds ++ f) ≡ Some (numeral_from minus ds fr.digits (pos 0)) =
    (λ i. with_whole (is_whole_part (all i)) minus (all i) (past i)) ∙ ap (λ (b : Bool). with_whole b minus ds f) whole_there ∙ ap (λ (o : Option (List ℕ × List ℕ)). option_and_then (with_exponent minus ds) o) fr.fraction_is in
    let number_is : number_of (ds ++ fr.digits) ≡ number = number_onto-append 0 ds fr.digits ∙ sym (fr.number_is ∙ ap (λ (m : ℕ). number_onto m fr.digits) (v ∙ ap (λ (xs : List ℕ). number_onto 0 xs) front_is)) in
    let parts : Some (numeral_from minus ds fr.digits (pos 0)) ≡ Some (numeral_at (signed minus number) fraction) = (λ i. Some (numeral_at (signed minus (number_is i)) (sym fr.count_is i))) in
    let plain : IsPlain (unsigned_numeral minus (take (count + size) text)) (record { minus = minus; number = number; fraction = fraction }) =
    record { numeral_is = ap (λ (xs : List ℕ). unsigned_numeral minus xs) text_is ∙ numeral ∙ parts; few = fr.few } in
    let dropped : drop size rest ≡ drop (count + size) text = ap (λ (xs : List ℕ). drop size xs) rest_is ∙ drop-drop size count text in
    (plain, subst (λ (xs : List ℕ). NextFails is_numeric xs) dropped h.1, omega (arith, h.2, ap length rest_is, length-drop count text, l))

-- the front of a window that goes on after it
next_within : (test : ℕ → Bool) (n k : ℕ) (xs : List ℕ) → n < k → NextFails test (drop n (take k xs)) → NextFails test (drop n xs)
next_within test zero zero xs l h = absurd (omega (arith, l))
next_within test zero (suc k) [] l h = tt
next_within test zero (suc k) (x ∷ xs) l h = h
next_within test (suc n) zero xs l h = absurd (omega (arith, l))
next_within test (suc n) (suc k) [] l h = tt
next_within test (suc n) (suc k) (x ∷ xs) l h = next_within test n k xs (omega arith) h

pub window_front : (minus : Bool) (text window beyond : List ℕ) (k size : ℕ) (p : Plain) → k ≤ length text → window ≡ take k text → beyond ≡ drop k text → (size ≡ length window → NextFails is_numeric beyond) → IsUnsignedFront minus window p size → IsUnsignedFront minus text p size
window_front minus text window beyond k size p l e b n h =
    let wide : length window ≡ k = ap length e ∙ length-take-le k text l in
    let within : size ≤ k = omega (arith, h.2, wide) in
    let front : take size window ≡ take size text = ap (λ (xs : List ℕ). take size xs) e ∙ take-take size k text within in
    (subst (λ (xs : List ℕ). IsPlain (unsigned_numeral minus xs) p) front h.0, next (cases_lt size k), omega (arith, within, l))
  where
    next : (size < k) ⊎ (k ≤ size) → NextFails is_numeric (drop size text)
    next (inl s) = next_within is_numeric size k text s (subst (λ (xs : List ℕ). NextFails is_numeric (drop size xs)) e h.1)
    next (inr s) =
        let wide : length window ≡ k = ap length e ∙ length-take-le k text l in
        let all : size ≡ k = omega (arith, h.2, wide, s) in
        subst (λ (m : ℕ). NextFails is_numeric (drop m text)) (sym all) (subst (λ (xs : List ℕ). NextFails is_numeric xs) b (n (all ∙ sym wide)))

pub minus_front : (text unsigned : List ℕ) (p : Plain) (n : ℕ) → text ≡ 45 ∷ unsigned → IsUnsignedFront true unsigned p n → IsPlainFront text p (n + 1)
unfolding numeral_of
minus_front text unsigned p n e h =
    let whole : IsPlainFront (45 ∷ unsigned) p (suc n) = (h.0, h.1, omega (arith, h.2)) in
    let s : suc n ≡ n + 1 = omega arith in
    subst (λ (t : List ℕ). IsPlainFront t p (n + 1)) (sym e) (subst (λ (m : ℕ). IsPlainFront (45 ∷ unsigned) p m) s whole)

unsigned_is : (n : ℕ) (text : List ℕ) → ((rest : List ℕ) → text ≡ 45 ∷ rest → ⊥) → numeral_of (take n text) ≡ unsigned_numeral false (take n text)
unfolding numeral_of
unsigned_is zero [] h = refl
unsigned_is zero (x ∷ xs) h = refl
unsigned_is (suc n) [] h = refl
unsigned_is (suc n) (x ∷ xs) h = cond-false (eqb x 45) _ _ (ne_eqb x 45 (λ e. h xs (ap (λ (y : ℕ). y ∷ xs) e)))

no_minus_front : (text : List ℕ) (p : Plain) (n : ℕ) → ((rest : List ℕ) → text ≡ 45 ∷ rest → ⊥) → IsUnsignedFront false text p n → IsPlainFront text p n
no_minus_front text p n e h = (subst (λ (v : Option Numeral). IsPlain v p) (sym (unsigned_is n text e)) h.0, h.1, h.2)

pub any_front : (text : List ℕ) (found : Option (Plain × ℕ)) → ((rest : List ℕ) → text ≡ 45 ∷ rest → ⊥) → IfSome found (λ r. IsUnsignedFront false text r.0 r.1) → IfSome found (λ r. IsPlainFront text r.0 r.1)
any_front text None e h = tt
any_front text (Some r) e h = no_minus_front text r.0 r.1 e h

-- ## Grid numbers

grid_front : (places : ℕ) (s : List ℕ) (p : Plain) → IsPlain (numeral_of s) p → grid_of_text places s ≡ grid_at places (Some (plain_numeral p))
unfolding grid_of_text
grid_front places s p h = ap (grid_at places) h.numeral_is

pub front_grid : (places size : ℕ) (g : ℤ) (p : Plain) (text : List ℕ) → IsPlainFront text p size → grid_at places (Some (plain_numeral p)) ≡ Some g → IsGridFront places text g size
front_grid places size g p text h e = (grid_front places (take size text) p h.0 ∙ e, h.1, h.2)
