-- Whole numbers of units, of numerals that were scaled.
use Rattle.std.proofs.Common.{ℕ, zero, suc, ◌≡◌, ◌≢◌, ◌+◌, ◌*◌, ◌/◌, ◌%◌, ◌^◌, ◌<◌, ◌≤◌, List, Bool, true, false, not, cond, ◌==◌, min, ℤ, pos, negsuc, neg_ℤ, ◌+ℤ◌, ◌*ℤ◌, Option, Some, None, refl, ap, ◌∙◌, sym, arith, lit<, lit≤, true≢false, ne_eqb, ◌⊎◌, inl, inr, mul_assoc}
use Rattle.std.specs.Prelude.{unsigned_abs, nat_lt, option_map}
use Rattle.std.proofs.lemmas.Bool.{cases_lt}
use Rattle.std.proofs.lemmas.Bool.Decides.{nat_tests, Decides-eqb}
use Rattle.std.proofs.lemmas.Nat.{mod-mul-add, div-add-mod'}
use Rattle.std.proofs.Math.Nat.{mul_comm, mod-lt, one-le-pow}
use Rattle.numerals.specs.Numeral.{Numeral, signed, numeral_of}
use Rattle.numerals.specs.Decimal.{checked, checked_where, decimal_of_text}
use Rattle.numerals.specs.Plain.{IsSize}
use Rattle.numerals.specs.Scaling.{IsScaled}
use Rattle.numerals.specs.Units.{counted, exactly, units_at, units_cap, units_of_text, whole_of}
use Rattle.numerals.specs.declared.numerals.Scaled.{Scaled}
use Rattle.numerals.proofs.Scaling.{div-small, pow_ten}

below : (n : ℕ) → n < 10 ^ 36 → nat_lt n (10 ^ 36) ≡ true
below n h = grind (arith, nat_tests)

past : (n : ℕ) → 10 ^ 36 ≤ n → nat_lt n (10 ^ 36) ≡ false
past n h = grind (arith, nat_tests)

pub signed_size : (minus : Bool) (n : ℕ) → unsigned_abs (signed minus n) ≡ n
signed_size false n = refl
signed_size true zero = refl
signed_size true (suc n) = refl

-- ## A whole number of units

pub checked_some : (minus : Bool) (n : ℕ) → n < 10 ^ 36 → checked (signed minus n) ≡ Some (signed minus n)
checked_some minus n l = ap (λ (t : Bool). cond t (Some (signed minus n)) None) (ap (λ (m : ℕ). nat_lt m (10 ^ 36)) (signed_size minus n) ∙ below n l)

checked_none : (minus : Bool) (n : ℕ) → 10 ^ 36 ≤ n → checked (signed minus n) ≡ None
checked_none minus n l = ap (λ (t : Bool). cond t (Some (signed minus n)) None) (ap (λ (m : ℕ). nat_lt m (10 ^ 36)) (signed_size minus n) ∙ past n l)

pub times_power : (minus : Bool) (n p : ℕ) → signed minus n *ℤ pos p ≡ signed minus (n * p)
times_power false n p = refl
times_power true zero p =
    let none : 0 * p ≡ 0 = omega arith in
    ap (λ (z : ℕ). pos z) none ∙ ap (λ (z : ℕ). neg_ℤ (pos z)) (sym none)
times_power true (suc n) p = refl

-- ## A quotient

-- an integer divided by d, where it is a multiple of it
quotient_of : (minus : Bool) (n d : ℕ) → 0 < d → exactly (signed minus n) d ≡ cond (n % d == 0) (Some (signed minus (n / d))) None
quotient_of false n d h = refl
quotient_of true zero d h =
    let none : 0 / d ≡ 0 = div-small 0 d h in
    ap (λ (z : ℕ). cond (0 % d == 0) (Some (pos z)) None) none ∙ ap (λ (z : ℕ). cond (0 % d == 0) (Some (neg_ℤ (pos z))) None) (sym none)
quotient_of true (suc n) d h = refl

multiple : (minus : Bool) (n d : ℕ) → 0 < d → n % d ≡ 0 → exactly (signed minus n) d ≡ Some (signed minus (n / d))
multiple minus n d h e = quotient_of minus n d h ∙ ap (λ (t : Bool). cond t (Some (signed minus (n / d))) None) ((Decides-eqb (n % d) 0).1 e)

no_multiple : (minus : Bool) (n d : ℕ) → 0 < d → n % d ≢ 0 → exactly (signed minus n) d ≡ None
no_multiple minus n d h e = quotient_of minus n d h ∙ ap (λ (t : Bool). cond t (Some (signed minus (n / d))) None) (ne_eqb (n % d) 0 e)

-- ## What lies after the units

-- nothing, where the tenths are none and no more follows
rest_none : (n k : ℕ) → n % 10 ^ suc k / 10 ^ k ≡ 0 → n % 10 ^ k ≡ 0 → n % 10 ^ suc k ≡ 0
rest_none n k t m =
    let P : ℕ = 10 ^ k in
    let D : ℕ = 10 ^ suc k in
    let R : ℕ = n % D in
    let positive : 1 ≤ P = one-le-pow k 10 (lit< tt) in
    let low : R ≡ R / P * P + R % P = sym (div-add-mod' R P) in
    let same : R / P * P ≡ 0 = ap (λ (x : ℕ). x * P) t ∙ zero-times P in
    let small : R < P = omega (arith, low, same, mod-lt R positive) in
    let whole : n ≡ n / D * D + R = sym (div-add-mod' n D) in
    let tens : n / D * D ≡ (n / D * 10) * P = ap (λ (x : ℕ). n / D * x) (pow_ten k ∙ mul_comm P 10) ∙ sym (mul_assoc (n / D) 10 P) in
    let all : n ≡ (n / D * 10) * P + R = whole ∙ ap (λ (x : ℕ). x + R) tens in
    sym (mod-mul-add (n / D * 10) P R small) ∙ ap (λ (x : ℕ). x % P) (sym all) ∙ m
  where
    zero-times : (p : ℕ) → 0 * p ≡ 0
    zero-times p = omega arith

-- and the other way round
tenths_none : (n k : ℕ) → n % 10 ^ suc k ≡ 0 → n % 10 ^ suc k / 10 ^ k ≡ 0
tenths_none n k e =
    let positive : 0 < 10 ^ k = one-le-pow k 10 (lit< tt) in
    ap (λ (x : ℕ). x / 10 ^ k) e ∙ div-small 0 (10 ^ k) positive

more_none : (n k : ℕ) → n % 10 ^ suc k ≡ 0 → n % 10 ^ k ≡ 0
more_none n k e =
    let P : ℕ = 10 ^ k in
    let D : ℕ = 10 ^ suc k in
    let positive : 0 < P = one-le-pow k 10 (lit< tt) in
    let whole : n ≡ n / D * D + 0 = sym (div-add-mod' n D) ∙ ap (λ (x : ℕ). n / D * D + x) e in
    let tens : n / D * D ≡ (n / D * 10) * P = ap (λ (x : ℕ). n / D * x) (pow_ten k ∙ mul_comm P 10) ∙ sym (mul_assoc (n / D) 10 P) in
    ap (λ (x : ℕ). x % P) (whole ∙ ap (λ (x : ℕ). x + 0) tens) ∙ mod-mul-add (n / D * 10) P 0 positive

-- where nothing does, the numeral is a whole number of units
whole_some : (minus : Bool) (n : ℕ) (s : ℤ) (r : Scaled) → IsScaled n s r → r.tenths ≡ 0 → r.more ≡ false → (q : ℕ) × (r.units ≡ min q units_cap) × (whole_of (signed minus n) s ≡ Some (signed minus q))
whole_some minus n (pos e) r h t m = (n * 10 ^ e, h.0, ap Some (times_power minus n (10 ^ e)))
whole_some minus n (negsuc k) r h t m =
    let positive : 0 < 10 ^ suc k = one-le-pow (suc k) 10 (lit< tt) in
    let rest : n % 10 ^ k ≡ 0 = not_more (n % 10 ^ k) (sym h.more ∙ m) in
    (n / 10 ^ suc k, h.units, multiple minus n (10 ^ suc k) positive (rest_none n k (sym h.tenths ∙ t) rest))
  where
    not_more : (x : ℕ) → not (x == 0) ≡ false → x ≡ 0
    not_more x e = grind (arith, nat_tests)

-- and otherwise it is none
whole_none : (minus : Bool) (n : ℕ) (s : ℤ) (r : Scaled) → IsScaled n s r → (r.tenths ≢ 0) ⊎ (r.more ≡ true) → whole_of (signed minus n) s ≡ None
whole_none minus n (pos e) r h (inl t) = absurd (t h.1)
whole_none minus n (pos e) r h (inr m) = absurd (true≢false (sym m ∙ h.2))
whole_none minus n (negsuc k) r h o = no_multiple minus n (10 ^ suc k) (one-le-pow (suc k) 10 (lit< tt)) (rest o)
  where
    rest : (r.tenths ≢ 0) ⊎ (r.more ≡ true) → n % 10 ^ suc k ≡ 0 → ⊥
    rest (inl t) none = t (h.tenths ∙ tenths_none n k none)
    rest (inr m) none = true≢false (sym m ∙ h.more ∙ ap (λ (t : Bool). not t) ((Decides-eqb (n % 10 ^ k) 0).1 (more_none n k none)))

-- ## The units of a text

counted_sign : (minus : Bool) (n : ℕ) → counted (signed minus n) ≡ signed minus (min n units_cap)
counted_sign false n = refl
counted_sign true zero = refl
counted_sign true (suc n) = refl

size_units : (places : ℕ) (bytes text : List ℕ) (minus : Bool) (r : Scaled) → bytes ≡ text → (h : IsSize places (numeral_of bytes) minus r) → units_of_text places text ≡ whole_of (signed minus h.number) (h.exponent +ℤ pos places)
unfolding units_of_text
size_units places bytes text minus r e h = ap (λ (t : List ℕ). units_at places (numeral_of t)) (sym e) ∙ ap (units_at places) h.numeral_is

pub units_some : (places : ℕ) (bytes text : List ℕ) (minus : Bool) (r : Scaled) → bytes ≡ text → IsSize places (numeral_of bytes) minus r → r.tenths ≡ 0 → r.more ≡ false
    → Some (signed minus r.units) ≡ option_map counted (units_of_text places text)
units_some places bytes text minus r e h t m =
    let w = whole_some minus h.number (h.exponent +ℤ pos places) r h.scaled t m in
    ap (λ (n : ℕ). Some (signed minus n)) w.1 ∙ sym (ap (option_map counted) (size_units places bytes text minus r e h ∙ w.2) ∙ ap Some (counted_sign minus w.0))

pub units_none : (places : ℕ) (bytes text : List ℕ) (minus : Bool) (r : Scaled) → bytes ≡ text → IsSize places (numeral_of bytes) minus r → (r.tenths ≢ 0) ⊎ (r.more ≡ true)
    → None ≡ option_map counted (units_of_text places text)
units_none places bytes text minus r e h o = sym (ap (option_map counted) (size_units places bytes text minus r e h ∙ whole_none minus h.number (h.exponent +ℤ pos places) r h.scaled o))

pub no_units : (places : ℕ) (bytes text : List ℕ) → bytes ≡ text → numeral_of bytes ≡ None → None ≡ option_map counted (units_of_text places text)
unfolding units_of_text
no_units places bytes text e h = sym (ap (option_map counted) (ap (λ (t : List ℕ). units_at places (numeral_of t)) (sym e) ∙ ap (units_at places) h))

-- ## The decimal of a text

-- the count goes further than decimals do
checked_count : (minus : Bool) (n : ℕ) → checked (signed minus (min n units_cap)) ≡ checked (signed minus n)
checked_count minus n = go (cases_lt n (10 ^ 36))
  where
    further : 10 ^ 36 ≤ units_cap
    further = lit≤ tt

    go : (n < 10 ^ 36) ⊎ (10 ^ 36 ≤ n) → checked (signed minus (min n units_cap)) ≡ checked (signed minus n)
    go (inl l) =
        let same : min n units_cap ≡ n = omega (arith, l, further) in
        ap (λ (m : ℕ). checked (signed minus m)) same
    go (inr l) = checked_none minus (min n units_cap) (omega (arith, l, further)) ∙ sym (checked_none minus n l)

checked_counted : (o : Option ℤ) → checked_where (option_map counted o) ≡ checked_where o
checked_counted None = refl
checked_counted (Some (pos n)) = checked_count false n
checked_counted (Some (negsuc n)) = checked_count true (suc n)

pub counted_decimal : (text : List ℕ) → checked_where (option_map counted (units_of_text 18 text)) ≡ decimal_of_text text
unfolding units_of_text decimal_of_text
counted_decimal text = checked_counted (units_at 18 (numeral_of text))

pub text_none : (bytes text : List ℕ) → bytes ≡ text → numeral_of bytes ≡ None → decimal_of_text text ≡ None
unfolding decimal_of_text
text_none bytes text e h = ap (λ (t : List ℕ). checked_where (units_at 18 (numeral_of t))) (sym e) ∙ ap (λ (o : Option Numeral). checked_where (units_at 18 o)) h
