-- The digits of a number, written from the last one on.
use Rattle.std.proofs.Common.{ℕ, zero, suc, ◌≡◌, ◌+◌, ◌*◌, lit<, ◌/◌, ◌%◌, ◌<◌, ◌≤◌, List, [], ◌∷◌, ◌++◌, Bool, false, cond, ◌==◌, refl, ap, ◌∙◌, sym, length, drop, set, length-set, add-one, ne_eqb, arith, append_assoc, ◌^◌, ◌⊎◌, inl, inr, ◌≢◌, ℤ, decimal}
use Rattle.std.specs.Prelude.{unsigned_abs}
use Rattle.std.proofs.lemmas.List.{drop-set}
use Rattle.std.proofs.Math.Nat.{div-div-eq-div-mul, one-le-pow, mul_comm, div-one}
use Rattle.std.proofs.Math.Arith.{mod-mul}
use Rattle.numerals.specs.Decimal.{last_digits, trimmed_digits, fraction_text, decimal_text, sign_text, is_negative}
use Rattle.numerals.proofs.Scaling.{pow_ten}

-- one more digit, in front of those that stand already
pub last_digits-suc : (k n : ℕ) (rest : List ℕ) → last_digits (suc k) n ++ rest ≡ last_digits k (n / 10) ++ ((48 + n % 10) ∷ rest)
unfolding last_digits
last_digits-suc k n rest = append_assoc (last_digits k (n / 10)) ((48 + n % 10) ∷ []) rest

pub last_digits-zero : (n : ℕ) (rest : List ℕ) → last_digits 0 n ++ rest ≡ rest
unfolding last_digits
last_digits-zero n rest = refl

-- a zero at the end falls away, and another digit stays
pub trimmed_digits-zero : (k n : ℕ) → n % 10 ≡ 0 → trimmed_digits (suc k) n ≡ trimmed_digits k (n / 10)
unfolding trimmed_digits
trimmed_digits-zero k n e = ap (λ (m : ℕ). cond (m == 0) (trimmed_digits k (n / 10)) (last_digits (suc k) n)) e

pub trimmed_digits-other : (k n : ℕ) → (n % 10 == 0) ≡ false → trimmed_digits (suc k) n ≡ last_digits (suc k) n
unfolding trimmed_digits
trimmed_digits-other k n e = ap (λ (b : Bool). cond b (trimmed_digits k (n / 10)) (last_digits (suc k) n)) e

pub trimmed_digits-none : (n : ℕ) → trimmed_digits 0 n ≡ last_digits 0 n
unfolding trimmed_digits last_digits
trimmed_digits-none n = refl

pub fraction_text-zero : fraction_text 0 ≡ []
unfolding fraction_text
fraction_text-zero = refl

pub fraction_text-other : (n : ℕ) → (n == 0) ≡ false → fraction_text n ≡ 46 ∷ trimmed_digits 18 n
unfolding fraction_text
fraction_text-other n e = ap (λ (b : Bool). cond b [] (46 ∷ trimmed_digits 18 n)) e

-- a step of the loop that writes the digits: place j, in front of place i
pub digits_step : (room : List ℕ) (j i n n0 : ℕ) → i ≡ j + 1 → i ≤ length room → last_digits (length room) n0 ≡ last_digits i n ++ drop i room
    → last_digits (length (set room j (48 + n % 10))) n0 ≡ last_digits j (n / 10) ++ drop j (set room j (48 + n % 10))
digits_step room j i n n0 e l h =
    let b : ℕ = 48 + n % 10 in
    let m : j < length room = omega arith in
    ap (λ (k : ℕ). last_digits k n0) (length-set room j b) ∙ h
    ∙ ap (λ (k : ℕ). last_digits k n ++ drop k room) e
    ∙ ap (λ (k : ℕ). last_digits k n ++ drop (j + 1) room) (add-one j)
    ∙ last_digits-suc j n (drop (j + 1) room)
    ∙ ap (λ (r : List ℕ). last_digits j (n / 10) ++ r) (sym (drop-set room j b m))

-- a step of the loop that drops a zero
pub trim_step : (i j n : ℕ) → i ≡ j + 1 → n % 10 ≡ 0 → trimmed_digits i n ≡ trimmed_digits j (n / 10)
trim_step i j n e z = ap (λ (k : ℕ). trimmed_digits k n) (e ∙ add-one j) ∙ trimmed_digits-zero j n z

-- many zeros at the end fall away at once
pub trim_many : (k j n : ℕ) → n % 10 ^ k ≡ 0 → trimmed_digits (j + k) n ≡ trimmed_digits j (n / 10 ^ k)
trim_many zero j n e =
    let none : j + 0 ≡ j = omega arith in
    ap (λ (i : ℕ). trimmed_digits i n) none ∙ ap (λ (m : ℕ). trimmed_digits j m) (sym (div-one n))
trim_many (suc k) j n e =
    let P : ℕ = 10 ^ k in
    let positive : 0 < P = one-le-pow k 10 (lit< tt) in
    let split : n % (P * 10) ≡ (n / 10 % P) * 10 + n % 10 = mod-mul n positive (lit< tt) in
    let whole : n % (P * 10) ≡ 0 = ap (λ (x : ℕ). n % x) (sym (pow_ten k)) ∙ e in
    let last : n % 10 ≡ 0 = omega (arith, split, whole) in
    let front : n / 10 % P ≡ 0 = omega (arith, split, whole) in
    let one_more : j + suc k ≡ suc (j + k) = omega arith in
    ap (λ (i : ℕ). trimmed_digits i n) one_more ∙ trimmed_digits-zero (j + k) n last ∙ trim_many k j (n / 10) front
    ∙ ap (λ (m : ℕ). trimmed_digits j m) (div-div-eq-div-mul n 10 P ∙ ap (λ (x : ℕ). n / x) (mul_comm 10 P ∙ sym (pow_ten k)))

pub trim_nine : (n : ℕ) → n % 1000000000 ≡ 0 → trimmed_digits 18 n ≡ trimmed_digits 9 (n / 1000000000)
trim_nine n e = trim_many 9 9 n e

-- where it ends: no digits are left, or the last one is no zero
pub trim_end : (i n : ℕ) → (i ≡ 0) ⊎ (n % 10 ≢ 0) → trimmed_digits i n ≡ last_digits i n
trim_end zero n h = trimmed_digits-none n
trim_end (suc i) n (inl e) = absurd (omega arith)
trim_end (suc i) n (inr d) = trimmed_digits-other i n (ne_eqb (n % 10) 0 d)

-- the parts of a decimal's text
pub decimal_text-parts : (units : ℤ) → decimal_text units ≡ sign_text (is_negative units) ++ decimal (unsigned_abs units / 10 ^ 18) ++ fraction_text (unsigned_abs units % 10 ^ 18)
unfolding decimal_text
decimal_text-parts units = refl

-- the text of a decimal, written part by part
pub decimal_joined : (units : ℤ) (size : ℕ) (negative : Bool) (o x y z : List ℕ) → size ≡ unsigned_abs units → negative ≡ is_negative units
    → x ≡ o ++ sign_text negative → y ≡ x ++ decimal (size / 10 ^ 18) → z ≡ y ++ fraction_text (size % 10 ^ 18) → z ≡ o ++ decimal_text units
decimal_joined units size negative o x y z s n a b c =
    let f : List ℕ = fraction_text (size % 10 ^ 18) in
    let d : List ℕ = decimal (size / 10 ^ 18) in
    c ∙ ap (λ (l : List ℕ). l ++ f) b ∙ ap (λ (l : List ℕ). (l ++ d) ++ f) a
    ∙ append_assoc (o ++ sign_text negative) d f ∙ append_assoc o (sign_text negative) (d ++ f) ∙ ap (λ (l : List ℕ). o ++ l) (sym (append_assoc (sign_text negative) d f))
    ∙ ap (λ (m : ℕ). o ++ (sign_text negative ++ decimal (m / 10 ^ 18) ++ fraction_text (m % 10 ^ 18))) s
    ∙ ap (λ (b : Bool). o ++ (sign_text b ++ decimal (unsigned_abs units / 10 ^ 18) ++ fraction_text (unsigned_abs units % 10 ^ 18))) n
    ∙ ap (λ (l : List ℕ). o ++ l) (sym (decimal_text-parts units))

pub digits_done : (room : List ℕ) (i n n0 len : ℕ) → i ≤ 0 → length room ≡ len → last_digits (length room) n0 ≡ last_digits i n ++ drop i room → room ≡ last_digits len n0
digits_done room zero n n0 len l e h = sym (ap (λ (k : ℕ). last_digits k n0) (sym e) ∙ h ∙ last_digits-zero n room)
digits_done room (suc i) n n0 len l e h = absurd (omega arith)

-- a numeral by its decimal, or as it is spelled
