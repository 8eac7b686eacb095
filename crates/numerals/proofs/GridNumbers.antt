-- Rounding gives the nearest whole number, and the text of a grid number has that grid number.
use Rattle.std.proofs.Common.{ℕ, zero, suc, ◌≡◌, ◌+◌, ◌-◌, ◌*◌, ◌/◌, ◌%◌, ◌^◌, ◌<◌, ◌≤◌, true, false, not, ◌==◌, ℤ, pos, negsuc, ◌+ℤ◌, ◌-ℤ◌, ◌*ℤ◌, ◌≤ℤ◌, ◌<ℤ◌, List, Some, refl, ap, ◌∙◌, sym, subst, arith, lit<, ◌⊎◌, inl, inr, add-zero, mul_assoc}
use Rattle.std.specs.Prelude.{unsigned_abs}
use Rattle.std.proofs.lemmas.Bool.{cases_lt}
use Rattle.std.proofs.lemmas.Int.{ints}
use Rattle.std.proofs.lemmas.Nat.{div-mul-add, mod-mul-add, div-add-mod', pow-add}
use Rattle.std.proofs.Math.Nat.{mul_comm, mod-lt, one-le-pow, mul-le-mul_right, lt_of_mul-lt-mul_right, mul-le-mul, pow-le-pow_right}
use Rattle.grid_bounds.specs.Bounds.{limit}
use Rattle.numerals.specs.Numeral.{signed, numeral_of, rounded, floor_div, checked_grid, grid_at, grid_of_text, Numeral, RoundedIsNearest}
use Rattle.numerals.specs.Decimal.{of_grid, decimal_text, is_negative}
use Rattle.numerals.specs.Scaling.{IsScaled}
use Rattle.numerals.specs.declared.numerals.Scaled.{Scaled}
use Rattle.numerals.proofs.Scaling.{div-small, pow_ten}
use Rattle.numerals.proofs.Quotients.{times_power}
use Rattle.numerals.proofs.Rounding.{grid_scaled, grid_some}
use Rattle.numerals.proofs.RoundTrip.{Written, written_numeral}

-- ## Quotients of integers

after_floor : (q : ℕ) → negsuc q +ℤ pos 1 ≡ signed true q
after_floor q = omega (arith, ints)

-- z stands at g * d, or between that and the next multiple
record Between (z g : ℤ) (d : ℕ) : Type 0 where
  low : (g *ℤ pos d) ≤ℤ z
  high : z <ℤ ((g +ℤ pos 1) *ℤ pos d)

floor_between : (z : ℤ) (d : ℕ) → 0 < d → Between z (floor_div z d) d
floor_between (pos n) d h =
    let parts : n / d * d + n % d ≡ n = div-add-mod' n d in
    let rest : n % d < d = mod-lt n h in
    let next : (n / d + 1) * d ≡ n / d * d + d = more (n / d) d in
    record {
      low = subst (λ (y : ℤ). y ≤ℤ pos n) (sym (times_power false (n / d) d)) (omega (arith, ints, parts));
      high = subst (λ (y : ℤ). pos n <ℤ y) (sym (times_power false (n / d + 1) d)) (omega (arith, ints, parts, rest, next));
    }
  where
    more : (q d : ℕ) → (q + 1) * d ≡ q * d + d
    more q d = omega arith
floor_between (negsuc n) d h =
    let parts : n / d * d + n % d ≡ n = div-add-mod' n d in
    let rest : n % d < d = mod-lt n h in
    let next : suc (n / d) * d ≡ n / d * d + d = more (n / d) d in
    record {
      low = subst (λ (y : ℤ). y ≤ℤ negsuc n) (sym (times_power true (suc (n / d)) d)) (omega (arith, ints, parts, rest, next));
      high = subst (λ (y : ℤ). negsuc n <ℤ y) (sym (ap (λ (x : ℤ). x *ℤ pos d) (after_floor (n / d)) ∙ times_power true (n / d) d)) (under (n / d * d) n (omega (arith, parts)));
    }
  where
    more : (q d : ℕ) → suc q * d ≡ q * d + d
    more q d = omega arith

    under : (x n : ℕ) → x ≤ n → negsuc n <ℤ signed true x
    under x n l = omega (arith, ints)

less_factor : (a b d : ℕ) → a * d < b * d → a < b
less_factor a b d l = lt_of_mul-lt-mul_right d l

from_pos : (x y : ℕ) → pos x <ℤ pos y → x < y
from_pos x y l = omega (arith, ints)

not_under : (x y : ℕ) → pos x <ℤ signed true y → ⊥
not_under x y l = omega (arith, ints)

from_neg : (x y : ℕ) → signed true x <ℤ signed true y → y < x
from_neg x y l = omega (arith, ints)

less_factor_ℤ : (a b : ℤ) (d : ℕ) → (a *ℤ pos d) <ℤ (b *ℤ pos d) → a <ℤ b
less_factor_ℤ (pos a) (pos b) d l =
    let m : a < b = less_factor a b d (from_pos (a * d) (b * d) (subst (λ (y : ℤ). pos (a * d) <ℤ y) (times_power false b d) (subst (λ (x : ℤ). x <ℤ (pos b *ℤ pos d)) (times_power false a d) l))) in
    omega (arith, ints, m)
less_factor_ℤ (pos a) (negsuc b) d l =
    absurd (not_under (a * d) (suc b * d) (subst (λ (y : ℤ). pos (a * d) <ℤ y) (times_power true (suc b) d) (subst (λ (x : ℤ). x <ℤ (negsuc b *ℤ pos d)) (times_power false a d) l)))
less_factor_ℤ (negsuc a) (pos b) d l = omega (arith, ints)
less_factor_ℤ (negsuc a) (negsuc b) d l =
    let m : suc b < suc a = less_factor (suc b) (suc a) d (from_neg (suc a * d) (suc b * d) (subst (λ (y : ℤ). signed true (suc a * d) <ℤ y) (times_power true (suc b) d) (subst (λ (x : ℤ). x <ℤ (negsuc b *ℤ pos d)) (times_power true (suc a) d) l))) in
    omega (arith, ints, m)

le_lt : (a b c : ℤ) → a ≤ℤ b → b <ℤ c → a <ℤ c
le_lt a b c l m = omega (arith, ints)

next_both : (g q : ℤ) → g <ℤ (q +ℤ pos 1) → q <ℤ (g +ℤ pos 1) → g ≡ q
next_both g q l m = omega (arith, ints)

one_between : (z g q : ℤ) (d : ℕ) → Between z g d → Between z q d → g ≡ q
one_between z g q d a b = next_both g q (less_factor_ℤ g (q +ℤ pos 1) d (le_lt _ z _ a.low b.high)) (less_factor_ℤ q (g +ℤ pos 1) d (le_lt _ z _ b.low a.high))

-- ## Rounding

twice_of : (g : ℤ) (d : ℕ) → pos 2 *ℤ g *ℤ pos d ≡ g *ℤ pos (2 * d)
twice_of (pos g) d = times_power false (2 * g) d ∙ ap (λ (x : ℕ). pos x) (moved g d) ∙ sym (times_power false g (2 * d))
  where
    moved : (g d : ℕ) → 2 * g * d ≡ g * (2 * d)
    moved g d = omega arith
twice_of (negsuc g) d = times_power true (2 * suc g) d ∙ ap (λ (x : ℕ). signed true x) (moved (suc g) d) ∙ sym (times_power true (suc g) (2 * d))
  where
    moved : (g d : ℕ) → 2 * g * d ≡ g * (2 * d)
    moved g d = omega arith

pub rounded_is_nearest : RoundedIsNearest
rounded_is_nearest m g e = (there, back)
  where
    d : 0 < 2 * 10 ^ suc e
    d = let p : 0 < 10 ^ suc e = one-le-pow (suc e) 10 (lit< tt) in omega (arith, p)

    floor : Between (pos 2 *ℤ m +ℤ pos (10 ^ suc e)) (rounded m (negsuc e)) (2 * 10 ^ suc e)
    floor = floor_between (pos 2 *ℤ m +ℤ pos (10 ^ suc e)) (2 * 10 ^ suc e) d

    there : rounded m (negsuc e) ≡ g → ((pos 2 *ℤ g *ℤ pos (10 ^ suc e)) ≤ℤ (pos 2 *ℤ m +ℤ pos (10 ^ suc e))) × ((pos 2 *ℤ m +ℤ pos (10 ^ suc e)) <ℤ (pos 2 *ℤ (g +ℤ pos 1) *ℤ pos (10 ^ suc e)))
    there r =
        let b : Between (pos 2 *ℤ m +ℤ pos (10 ^ suc e)) g (2 * 10 ^ suc e) = subst (λ (x : ℤ). Between (pos 2 *ℤ m +ℤ pos (10 ^ suc e)) x (2 * 10 ^ suc e)) r floor in
        (subst (λ (y : ℤ). y ≤ℤ (pos 2 *ℤ m +ℤ pos (10 ^ suc e))) (sym (twice_of g (10 ^ suc e))) b.low, subst (λ (y : ℤ). (pos 2 *ℤ m +ℤ pos (10 ^ suc e)) <ℤ y) (sym (twice_of (g +ℤ pos 1) (10 ^ suc e))) b.high)

    back : ((pos 2 *ℤ g *ℤ pos (10 ^ suc e)) ≤ℤ (pos 2 *ℤ m +ℤ pos (10 ^ suc e))) × ((pos 2 *ℤ m +ℤ pos (10 ^ suc e)) <ℤ (pos 2 *ℤ (g +ℤ pos 1) *ℤ pos (10 ^ suc e))) → rounded m (negsuc e) ≡ g
    back b = one_between (pos 2 *ℤ m +ℤ pos (10 ^ suc e)) (rounded m (negsuc e)) g (2 * 10 ^ suc e) floor
        (record { low = subst (λ (y : ℤ). y ≤ℤ (pos 2 *ℤ m +ℤ pos (10 ^ suc e))) (twice_of g (10 ^ suc e)) b.0; high = subst (λ (y : ℤ). (pos 2 *ℤ m +ℤ pos (10 ^ suc e)) <ℤ y) (twice_of (g +ℤ pos 1) (10 ^ suc e)) b.1 })

-- ## The text of a grid number

same_factor : (a b d : ℕ) → 0 < d → a * d ≡ b * d → a ≡ b
same_factor a b d h e = go (cases_lt a b) (cases_lt b a)
  where
    go : (a < b) ⊎ (b ≤ a) → (b < a) ⊎ (a ≤ b) → a ≡ b
    go (inr l) (inr m) = omega (arith, l, m)
    go (inl l) m = let s : suc a * d ≤ b * d = mul-le-mul_right d l in absurd (omega (arith, s, e, h, more a d))
      where
        more : (a d : ℕ) → suc a * d ≡ a * d + d
        more a d = omega arith
    go (inr l) (inl m) = let s : suc b * d ≤ a * d = mul-le-mul_right d m in absurd (omega (arith, s, e, h, more b d))
      where
        more : (a d : ℕ) → suc a * d ≡ a * d + d
        more a d = omega arith

abbrev exact_units : ℕ → Scaled
exact_units n = record { units = n; tenths = 0; more = false }

-- m / 10^j is n / 10^k
scaled_back : (m j k n : ℕ) → j ≤ 18 → k ≤ 18 → n ≤ limit → m * 10 ^ (18 - j) ≡ n * 10 ^ (18 - k) → IsScaled m ((pos 0 -ℤ pos j) +ℤ pos k) (exact_units n)
scaled_back m j k n hj hk l e = go (cases_lt k j)
  where
    up : j ≤ k → IsScaled m (pos (k - j)) (exact_units n)
    up h =
        let split : 10 ^ (18 - j) ≡ 10 ^ (k - j) * 10 ^ (18 - k) = ap (λ (x : ℕ). 10 ^ x) (let s : 18 - j ≡ (k - j) + (18 - k) = omega (arith, h, hj, hk) in s) ∙ pow-add 10 (k - j) (18 - k) in
        let same : m * 10 ^ (k - j) ≡ n = same_factor (m * 10 ^ (k - j)) n (10 ^ (18 - k)) (one-le-pow (18 - k) 10 (lit< tt)) (mul_assoc m (10 ^ (k - j)) (10 ^ (18 - k)) ∙ ap (λ (x : ℕ). m * x) (sym split) ∙ e) in
        (omega (arith, same, l), refl, refl)

    down : k < j → IsScaled m (negsuc (j - k - 1)) (exact_units n)
    down h =
        let split : 10 ^ (18 - k) ≡ 10 ^ suc (j - k - 1) * 10 ^ (18 - j) = ap (λ (x : ℕ). 10 ^ x) (let s : 18 - k ≡ suc (j - k - 1) + (18 - j) = omega (arith, h, hj, hk) in s) ∙ pow-add 10 (suc (j - k - 1)) (18 - j) in
        let same : m ≡ n * 10 ^ suc (j - k - 1) = same_factor m (n * 10 ^ suc (j - k - 1)) (10 ^ (18 - j)) (one-le-pow (18 - j) 10 (lit< tt)) (e ∙ ap (λ (x : ℕ). n * x) split ∙ sym (mul_assoc n (10 ^ suc (j - k - 1)) (10 ^ (18 - j)))) in
        subst (λ (m : ℕ). IsScaled m (negsuc (j - k - 1)) (exact_units n)) (sym same) (cut n (j - k - 1) l)
      where
        cut : (n x : ℕ) → n ≤ limit → IsScaled (n * 10 ^ suc x) (negsuc x) (exact_units n)
        cut n x l =
            let p : 0 < 10 ^ suc x = one-le-pow (suc x) 10 (lit< tt) in
            let q : 0 < 10 ^ x = one-le-pow x 10 (lit< tt) in
            let quotient : n * 10 ^ suc x / 10 ^ suc x ≡ n = ap (λ (y : ℕ). y / 10 ^ suc x) (sym (add-zero (n * 10 ^ suc x))) ∙ div-mul-add n (10 ^ suc x) 0 p in
            let rest : n * 10 ^ suc x % 10 ^ suc x ≡ 0 = ap (λ (y : ℕ). y % 10 ^ suc x) (sym (add-zero (n * 10 ^ suc x))) ∙ mod-mul-add n (10 ^ suc x) 0 p in
            let tens : n * 10 ^ suc x ≡ n * 10 * 10 ^ x = ap (λ (y : ℕ). n * y) (pow_ten x ∙ mul_comm (10 ^ x) 10) ∙ sym (mul_assoc n 10 (10 ^ x)) in
            let past : n * 10 ^ suc x % 10 ^ x ≡ 0 = ap (λ (y : ℕ). y % 10 ^ x) (tens ∙ sym (add-zero (n * 10 * 10 ^ x))) ∙ mod-mul-add (n * 10) (10 ^ x) 0 q in
            record {
              units = omega (arith, quotient, l);
              tenths = sym (ap (λ (y : ℕ). y / 10 ^ x) rest ∙ div-small 0 (10 ^ x) q);
              more = ap (λ (y : ℕ). not (y == 0)) (sym past);
            }

    at_up : (j k : ℕ) → j ≤ k → (pos 0 -ℤ pos j) +ℤ pos k ≡ pos (k - j)
    at_up j k h = omega (arith, ints)

    at_down : (j k : ℕ) → k < j → (pos 0 -ℤ pos j) +ℤ pos k ≡ negsuc (j - k - 1)
    at_down j k h = omega (arith, ints)

    go : (k < j) ⊎ (j ≤ k) → IsScaled m ((pos 0 -ℤ pos j) +ℤ pos k) (exact_units n)
    go (inl h) = subst (λ (s : ℤ). IsScaled m s (exact_units n)) (sym (at_down j k h)) (down h)
    go (inr h) = subst (λ (s : ℤ). IsScaled m s (exact_units n)) (sym (at_up j k h)) (up h)

-- the sign of g * p
sign_kept : (g : ℤ) (p : ℕ) → 0 < p → signed (is_negative (g *ℤ pos p)) (unsigned_abs g) ≡ g
sign_kept (pos n) p h = ap (λ (z : ℤ). signed (is_negative z) n) (times_power false n p)
sign_kept (negsuc n) p h = ap (λ (z : ℤ). signed (is_negative z) (suc n)) (times_power true (suc n) p) ∙ below (suc n * p) (let m : suc n * p ≡ n * p + p = more n p in omega (arith, m, h))
  where
    more : (n p : ℕ) → suc n * p ≡ n * p + p
    more n p = omega arith

    below : (x : ℕ) → 0 < x → signed (is_negative (signed true x)) (suc n) ≡ negsuc n
    below zero h = absurd (omega (arith, h))
    below (suc x) h = refl

size_kept : (g : ℤ) (p : ℕ) → unsigned_abs (g *ℤ pos p) ≡ unsigned_abs g * p
size_kept (pos n) p = ap unsigned_abs (times_power false n p)
size_kept (negsuc n) p = ap unsigned_abs (times_power true (suc n) p) ∙ size_of (suc n * p)
  where
    size_of : (n : ℕ) → unsigned_abs (signed true n) ≡ n
    size_of zero = refl
    size_of (suc n) = refl

grid_read : (places : ℕ) (text : List ℕ) (v : Numeral) → numeral_of text ≡ Some v → grid_of_text places text ≡ checked_grid (rounded v.mantissa (v.exponent +ℤ pos places))
unfolding grid_of_text
grid_read places text v e = ap (grid_at places) e

pub grid_reads_back : (g : ℤ) (places : ℕ) → places ≤ 18 → unsigned_abs g ≤ limit → grid_of_text places (decimal_text (of_grid g places)) ≡ Some g
grid_reads_back g places h l =
    let some : 0 < 10 ^ (18 - places) = one-le-pow (18 - places) 10 (lit< tt) in
    let size : unsigned_abs (of_grid g places) ≡ unsigned_abs g * 10 ^ (18 - places) = size_kept g (10 ^ (18 - places)) in
    let least : 10 ^ (18 - places) ≤ 10 ^ 18 = pow-le-pow_right (lit< tt) (let s : 18 - places ≤ 18 = omega arith in s) in
    let bound : unsigned_abs g * 10 ^ (18 - places) ≤ limit * 10 ^ 18 = mul-le-mul l least in
    let w : Written (of_grid g places) = written_numeral (of_grid g places) (omega (arith, size, bound)) in
    let scaled : IsScaled w.size ((pos 0 -ℤ pos w.places) +ℤ pos places) (exact_units (unsigned_abs g)) = scaled_back w.size w.places places (unsigned_abs g) w.short h l (w.value ∙ size) in
    grid_read places (decimal_text (of_grid g places)) _ w.is
    ∙ grid_scaled (is_negative (of_grid g places)) w.size ((pos 0 -ℤ pos w.places) +ℤ pos places) (exact_units (unsigned_abs g)) scaled
    ∙ ap (λ (n : ℕ). checked_grid (signed (is_negative (of_grid g places)) n)) (add-zero (unsigned_abs g)) ∙ grid_some (is_negative (of_grid g places)) (unsigned_abs g) l
    ∙ ap (λ (z : ℤ). Some z) (sign_kept g (10 ^ (18 - places)) some)
