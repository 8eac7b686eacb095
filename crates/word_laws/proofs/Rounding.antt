-- Areas in squares of the grid, rounded.
use Rattle.std.proofs.Common.{◌≡◌, ℕ, zero, suc, ◌+◌, ◌-◌, ◌*◌, ◌/◌, ◌^◌, ◌<◌, ◌≤◌, ap, sym, ◌∙◌, arith}
use Rattle.std.proofs.Math.Nat.{div-div-eq-div-mul, mul-div_cancel}
use Rattle.std.proofs.lemmas.Nat.{pow-add, div-mul-add}
use Rattle.cmd_words.specs.Quantities.{square_unit, doubled_below, doubled_above}

ten_power : (k : ℕ) → 0 < 10 ^ k
ten_power zero = omega arith
ten_power (suc k) = let h : 0 < 10 ^ k = ten_power k in grind arith

-- 1 in units of 10^-18, by the squares of the grid of a unit
parts : (k : ℕ) → k ≤ 9 → 10 ^ (2 * k) * square_unit k ≡ 10 ^ 18
parts k h = sym (pow-add 10 (2 * k) (18 - 2 * k)) ∙ ap (λ (n : ℕ). 10 ^ n) (let e : 2 * k + (18 - 2 * k) ≡ 18 = omega (arith, h) in e)

-- a divisor that both share
shared_down : (x c d : ℕ) → 0 < c → (x * c) / (c * d) ≡ x / d
shared_down x c d h = sym (div-div-eq-div-mul (x * c) c d) ∙ ap (λ (n : ℕ). n / d) (mul-div_cancel x h)

-- one less than a product
less_one : (x c d : ℕ) → 0 < c → 0 < d → x * c + (c * d - 1) ≡ (x + (d - 1)) * c + (c - 1)
less_one x c zero h p = absurd (omega (arith, p))
less_one x c (suc e) h p = grind arith

shared_up : (x c d : ℕ) → 0 < c → 0 < d → (x * c + (c * d - 1)) / (c * d) ≡ (x + (d - 1)) / d
shared_up x c d h p =
    sym (div-div-eq-div-mul (x * c + (c * d - 1)) c d)
    ∙ ap (λ (n : ℕ). n / c / d) (less_one x c d h p)
    ∙ ap (λ (n : ℕ). n / d) (div-mul-add (x + (d - 1)) c (c - 1) (let l : c - 1 < c = omega (arith, h) in l))

pub rounded_down : (places units : ℕ) → places ≤ 9 → doubled_below places units ≡ (2 * units * 10 ^ (2 * places)) / 10 ^ 18
unfolding doubled_below
rounded_down k u h = sym (shared_down (2 * u) (10 ^ (2 * k)) (square_unit k) (ten_power (2 * k))) ∙ ap (λ (n : ℕ). (2 * u * 10 ^ (2 * k)) / n) (parts k h)

pub rounded_up : (places units : ℕ) → places ≤ 9 → doubled_above places units ≡ (2 * units * 10 ^ (2 * places) + (10 ^ 18 - 1)) / 10 ^ 18
unfolding doubled_above
rounded_up k u h =
    sym (shared_up (2 * u) (10 ^ (2 * k)) (square_unit k) (ten_power (2 * k)) (ten_power (18 - 2 * k)))
    ∙ ap (λ (n : ℕ). (2 * u * 10 ^ (2 * k) + (n - 1)) / n) (parts k h)
