-- Rounding a numeral that was scaled to a whole number.
use Rattle.std.proofs.Common.{ℕ, zero, suc, ◌≡◌, ◌≢◌, ◌+◌, ◌-◌, ◌*◌, ◌/◌, ◌%◌, ◌^◌, ◌<◌, ◌≤◌, List, Bool, true, false, not, cond, ◌&&◌, ◌||◌, ◌==◌, min, ℤ, pos, negsuc, neg_ℤ, ◌+ℤ◌, ◌-ℤ◌, ◌*ℤ◌, Some, None, refl, ap, ◌∙◌, sym, arith, lit<, true≢false, ◌⊎◌, inl, inr, mul_assoc, add-zero, add-one, zero-mul}
use Rattle.std.specs.Prelude.{nat_lt, nat_le}
use Rattle.std.proofs.lemmas.Bool.{cases_lt}
use Rattle.std.proofs.lemmas.Bool.Decides.{nat_tests, Decides-eqb}
use Rattle.std.proofs.lemmas.Int.{ints}
use Rattle.std.proofs.lemmas.Nat.{div-mul-add, mod-mul-add, div-add-mod'}
use Rattle.std.proofs.Math.Nat.{mul_comm, mod-lt, one-le-pow, mul-le-mul_right, pow-le-pow_right}
use Rattle.grid_bounds.specs.Bounds.{limit}
use Rattle.numerals.specs.Numeral.{signed, numeral_of, rounded, floor_div, checked_grid, grid_at, grid_of_text}
use Rattle.numerals.specs.Plain.{IsSize}
use Rattle.numerals.specs.Scaling.{IsScaled, goes_up, one_if}
use Rattle.numerals.specs.Units.{units_cap}
use Rattle.numerals.specs.declared.numerals.Scaled.{Scaled}
use Rattle.numerals.proofs.Scaling.{div-small, mod-small, pow_ten}
use Rattle.numerals.proofs.Quotients.{signed_size, times_power}

-- ## Halves, by whole numbers: R of D, with D = 10 * P and R = t * P + T

-- the parts of what stands after the units
tenths_split : (R P : ℕ) → R ≡ R / P * P + R % P
tenths_split R P = sym (div-add-mod' R P)

-- at least a half
pub half_up : (R P : ℕ) → 0 < P → 5 ≤ R / P → P * 10 ≤ 2 * R
half_up R P h l =
    let t : ℕ = R / P in
    let s : R ≡ t * P + R % P = tenths_split R P in
    let m : 5 * P ≤ t * P = mul-le-mul_right P l in
    omega (arith, s, m)

half_down : (R P : ℕ) → 0 < P → R / P ≤ 4 → 2 * R < P * 10
half_down R P h l =
    let t : ℕ = R / P in
    let s : R ≡ t * P + R % P = tenths_split R P in
    let m : t * P ≤ 4 * P = mul-le-mul_right P l in
    let r : R % P < P = mod-lt R h in
    omega (arith, s, m, r)

-- more than a half
past_half : (R P : ℕ) → 0 < P → (6 ≤ R / P) ⊎ ((R / P ≡ 5) × (R % P ≢ 0)) → P * 10 < 2 * R
past_half R P h (inl l) =
    let t : ℕ = R / P in
    let s : R ≡ t * P + R % P = tenths_split R P in
    let m : 6 * P ≤ t * P = mul-le-mul_right P l in
    omega (arith, s, m)
past_half R P h (inr (e, n)) =
    let s : R ≡ R / P * P + R % P = tenths_split R P in
    let m : R / P * P ≡ 5 * P = ap (λ (x : ℕ). x * P) e in
    let p : 1 ≤ R % P = positive (R % P) n in
    omega (arith, s, m, p)
  where
    positive : (x : ℕ) → x ≢ 0 → 1 ≤ x
    positive zero n = absurd (n refl)
    positive (suc x) n = omega arith

not_past : (R P : ℕ) → 0 < P → (R / P ≤ 4) ⊎ ((R / P ≡ 5) × (R % P ≡ 0)) → 2 * R ≤ P * 10
not_past R P h (inl l) =
    let d : 2 * R < P * 10 = half_down R P h l in
    omega (arith, d)
not_past R P h (inr (e, z)) =
    let s : R ≡ R / P * P + R % P = tenths_split R P in
    let m : R / P * P ≡ 5 * P = ap (λ (x : ℕ). x * P) e in
    omega (arith, s, m, z)

-- ## The quotients

-- n / D, halves up
plus_up : (n D : ℕ) → 0 < D → D ≤ 2 * (n % D) → (2 * n + D) / (2 * D) ≡ n / D + 1
plus_up n D h u =
    let Q : ℕ = n / D in
    let R : ℕ = n % D in
    let s : n ≡ Q * D + R = sym (div-add-mod' n D) in
    let r : R < D = mod-lt n h in
    let double : 2 * (Q * D) ≡ Q * (2 * D) = twice Q D in
    let split : 2 * n + D ≡ (Q + 1) * (2 * D) + (2 * R - D) = omega (arith, s, u, double, one_more Q (2 * D)) in
    ap (λ (x : ℕ). x / (2 * D)) split ∙ div-mul-add (Q + 1) (2 * D) (2 * R - D) (omega (arith, r, h))
  where
    twice : (q d : ℕ) → 2 * (q * d) ≡ q * (2 * d)
    twice q d = omega arith

    one_more : (q d : ℕ) → (q + 1) * d ≡ q * d + d
    one_more q d = omega arith

plus_stays : (n D : ℕ) → 0 < D → 2 * (n % D) < D → (2 * n + D) / (2 * D) ≡ n / D
plus_stays n D h u =
    let Q : ℕ = n / D in
    let R : ℕ = n % D in
    let s : n ≡ Q * D + R = sym (div-add-mod' n D) in
    let double : 2 * (Q * D) ≡ Q * (2 * D) = twice Q D in
    let split : 2 * n + D ≡ Q * (2 * D) + (2 * R + D) = omega (arith, s, double) in
    ap (λ (x : ℕ). x / (2 * D)) split ∙ div-mul-add Q (2 * D) (2 * R + D) (omega (arith, u))
  where
    twice : (q d : ℕ) → 2 * (q * d) ≡ q * (2 * d)
    twice q d = omega arith

-- (2 * n - D - 1) / (2 * D), for 2 * n above D
minus_up : (n D : ℕ) → 0 < D → D < 2 * (n % D) → (2 * n - D - 1) / (2 * D) ≡ n / D
minus_up n D h u =
    let Q : ℕ = n / D in
    let R : ℕ = n % D in
    let s : n ≡ Q * D + R = sym (div-add-mod' n D) in
    let r : R < D = mod-lt n h in
    let double : 2 * (Q * D) ≡ Q * (2 * D) = twice Q D in
    let split : 2 * n - D - 1 ≡ Q * (2 * D) + (2 * R - D - 1) = omega (arith, s, u, double) in
    ap (λ (x : ℕ). x / (2 * D)) split ∙ div-mul-add Q (2 * D) (2 * R - D - 1) (omega (arith, r, h))
  where
    twice : (q d : ℕ) → 2 * (q * d) ≡ q * (2 * d)
    twice q d = omega arith

minus_stays : (n D q : ℕ) → 0 < D → 2 * (n % D) ≤ D → n / D ≡ q + 1 → (2 * n - D - 1) / (2 * D) ≡ q
minus_stays n D q h u e =
    let R : ℕ = n % D in
    let s : n ≡ (q + 1) * D + R = sym (div-add-mod' n D) ∙ ap (λ (x : ℕ). x * D + R) e in
    let double : 2 * ((q + 1) * D) ≡ q * (2 * D) + 2 * D = twice q D in
    let split : 2 * n - D - 1 ≡ q * (2 * D) + (2 * R + D - 1) = omega (arith, s, double, h) in
    ap (λ (x : ℕ). x / (2 * D)) split ∙ div-mul-add q (2 * D) (2 * R + D - 1) (omega (arith, u, h))
  where
    twice : (q d : ℕ) → 2 * ((q + 1) * d) ≡ q * (2 * d) + 2 * d
    twice q d = omega arith

-- below half of D nothing is left
low_half : (n D : ℕ) → 0 < D → n / D ≡ 0 → n ≡ n % D
low_half n D h e =
    let s : n ≡ n / D * D + n % D = sym (div-add-mod' n D) in
    let z : n / D * D ≡ 0 * D = ap (λ (x : ℕ). x * D) e in
    omega (arith, s, z, nothing D)
  where
    nothing : (d : ℕ) → 0 * d ≡ 0
    nothing d = omega arith

-- ## What rounds up

abbrev up : ℕ → Bool → Bool → Bool
up t more minus = nat_lt 5 t || ((t == 5) && (more || not minus))

above5 : (t : ℕ) → 6 ≤ t → nat_lt 5 t ≡ true
above5 t l = grind (arith, nat_tests)

below5 : (t : ℕ) → t < 5 → nat_lt 5 t ≡ false
below5 t l = grind (arith, nat_tests)

not5 : (t : ℕ) → t < 5 → (t == 5) ≡ false
not5 t l = grind (arith, nat_tests)

up_six : (t : ℕ) (more minus : Bool) → 6 ≤ t → up t more minus ≡ true
up_six t more minus l = ap (λ (b : Bool). b || ((t == 5) && (more || not minus))) (above5 t l)

up_four : (t : ℕ) (more minus : Bool) → t < 5 → up t more minus ≡ false
up_four t more minus l = ap (λ (b : Bool). b || ((t == 5) && (more || not minus))) (below5 t l) ∙ ap (λ (b : Bool). b && (more || not minus)) (not5 t l)

up_five : (t : ℕ) (more minus : Bool) → t ≡ 5 → up t more minus ≡ (more || not minus)
up_five t more minus e = ap (λ (x : ℕ). up x more minus) e

or_true : (b : Bool) → (b || true) ≡ true
or_true true = refl
or_true false = refl

or_false : (b : Bool) → (b || false) ≡ b
or_false true = refl
or_false false = refl

five : (t : ℕ) → 5 ≤ t → (6 ≤ t) ⊎ (t ≡ 5)
five t l = go (cases_lt 5 t)
  where
    go : (5 < t) ⊎ (t ≤ 5) → (6 ≤ t) ⊎ (t ≡ 5)
    go (inl m) = inl (omega arith)
    go (inr m) = inr (omega arith)

-- ## Above zero

plus_rounds : (n k t : ℕ) (more : Bool) → t ≡ n % 10 ^ suc k / 10 ^ k → (2 * n + 10 ^ suc k) / (2 * 10 ^ suc k) ≡ n / 10 ^ suc k + one_if (up t more false)
plus_rounds n k t more e = go (cases_lt t 5)
  where
    D : ℕ
    D = 10 ^ suc k

    P : ℕ
    P = 10 ^ k

    ten : 10 ^ suc k ≡ 10 ^ k * 10
    ten = pow_ten k

    p : 0 < 10 ^ k
    p = one-le-pow k 10 (lit< tt)

    d : 0 < 10 ^ suc k
    d = one-le-pow (suc k) 10 (lit< tt)

    go : (t < 5) ⊎ (5 ≤ t) → (2 * n + 10 ^ suc k) / (2 * 10 ^ suc k) ≡ n / 10 ^ suc k + one_if (up t more false)
    go (inl l) =
        let low : 2 * (n % 10 ^ suc k) < 10 ^ k * 10 = half_down (n % 10 ^ suc k) (10 ^ k) p (omega (arith, e, l)) in
        plus_stays n (10 ^ suc k) d (omega (arith, low, ten)) ∙ sym (add-zero (n / 10 ^ suc k)) ∙ ap (λ (b : Bool). n / 10 ^ suc k + one_if b) (sym (up_four t more false l))
    go (inr l) =
        let high : 10 ^ k * 10 ≤ 2 * (n % 10 ^ suc k) = half_up (n % 10 ^ suc k) (10 ^ k) p (omega (arith, e, l)) in
        plus_up n (10 ^ suc k) d (omega (arith, high, ten)) ∙ ap (λ (b : Bool). n / 10 ^ suc k + one_if b) (sym (above (five t l)))
      where
        above : (6 ≤ t) ⊎ (t ≡ 5) → up t more false ≡ true
        above (inl m) = up_six t more false m
        above (inr m) = up_five t more false m ∙ or_true more

-- ## Below zero

-- what stands after the units is more than a half, or it is not
past_or_not : (R P t : ℕ) (more : Bool) → 0 < P → t ≡ R / P → more ≡ not (R % P == 0)
    → ((P * 10 < 2 * R) × (up t more true ≡ true)) ⊎ ((2 * R ≤ P * 10) × (up t more true ≡ false))
past_or_not R P t more p e m = go (cases_lt t 5)
  where
    at_five : t ≡ 5 → (b : Bool) → (R % P == 0) ≡ b → ((P * 10 < 2 * R) × (up t more true ≡ true)) ⊎ ((2 * R ≤ P * 10) × (up t more true ≡ false))
    at_five f true z =
        let none : R % P ≡ 0 = (Decides-eqb (R % P) 0).0 z in
        inr (not_past R P p (inr (sym e ∙ f, none)), up_five t more true f ∙ or_false more ∙ m ∙ ap (λ (b : Bool). not b) z)
    at_five f false z =
        let some : R % P ≢ 0 = λ y. true≢false (sym ((Decides-eqb (R % P) 0).1 y) ∙ z) in
        inl (past_half R P p (inr (sym e ∙ f, some)), up_five t more true f ∙ or_false more ∙ m ∙ ap (λ (b : Bool). not b) z)

    go : (t < 5) ⊎ (5 ≤ t) → ((P * 10 < 2 * R) × (up t more true ≡ true)) ⊎ ((2 * R ≤ P * 10) × (up t more true ≡ false))
    go (inl l) = inr (not_past R P p (inl (omega (arith, e, l))), up_four t more true l)
    go (inr l) = above (five t l)
      where
        above : (6 ≤ t) ⊎ (t ≡ 5) → ((P * 10 < 2 * R) × (up t more true ≡ true)) ⊎ ((2 * R ≤ P * 10) × (up t more true ≡ false))
        above (inl g) = inl (past_half R P p (inl (omega (arith, e, g))), up_six t more true g)
        above (inr f) = at_five f (R % P == 0) refl

-- the digits after the first are those of the whole
more_same : (n k : ℕ) → n % 10 ^ suc k % 10 ^ k ≡ n % 10 ^ k
more_same n k =
    let D : ℕ = 10 ^ suc k in
    let P : ℕ = 10 ^ k in
    let R : ℕ = n % D in
    let p : 0 < P = one-le-pow k 10 (lit< tt) in
    let whole : n ≡ n / D * D + R = sym (div-add-mod' n D) in
    let tens : n / D * D ≡ (n / D * 10) * P = ap (λ (x : ℕ). n / D * x) (pow_ten k ∙ mul_comm P 10) ∙ sym (mul_assoc (n / D) 10 P) in
    let parts : (n / D * 10) * P + (R / P * P + R % P) ≡ (n / D * 10 + R / P) * P + R % P = joined (n / D * 10) (R / P) P (R % P) in
    let all : n ≡ (n / D * 10 + R / P) * P + R % P = whole ∙ ap (λ (x : ℕ). x + R) tens ∙ ap (λ (x : ℕ). (n / D * 10) * P + x) (tenths_split R P) ∙ parts in
    sym (mod-mul-add (n / D * 10 + R / P) P (R % P) (mod-lt R p)) ∙ ap (λ (x : ℕ). x % P) (sym all)
  where
    joined : (a b p r : ℕ) → a * p + (b * p + r) ≡ (a + b) * p + r
    joined a b p r = omega arith

minus_sign : (q : ℕ) → negsuc q ≡ signed true (q + 1)
minus_sign q = ap (λ (x : ℕ). neg_ℤ (pos x)) (sym (add-one q))

sum_below : (x d : ℕ) → d < x → neg_ℤ (pos x) +ℤ pos d ≡ negsuc (x - d - 1)
sum_below x d l = omega (arith, ints)

sum_above : (x d : ℕ) → x ≤ d → neg_ℤ (pos x) +ℤ pos d ≡ pos (d - x)
sum_above x d l = omega (arith, ints)

minus_rounds : (m k t : ℕ) (more : Bool) → t ≡ suc m % 10 ^ suc k / 10 ^ k → more ≡ not (suc m % 10 ^ k == 0)
    → floor_div (pos 2 *ℤ negsuc m +ℤ pos (10 ^ suc k)) (2 * 10 ^ suc k) ≡ signed true (suc m / 10 ^ suc k + one_if (up t more true))
minus_rounds m k t more e f = go (cases_lt (10 ^ suc k) (2 * suc m)) (past_or_not (suc m % 10 ^ suc k) (10 ^ k) t more p e (f ∙ ap (λ (x : ℕ). not (x == 0)) (sym (more_same (suc m) k))))
  where
    ten : 10 ^ suc k ≡ 10 ^ k * 10
    ten = pow_ten k

    p : 0 < 10 ^ k
    p = one-le-pow k 10 (lit< tt)

    d : 0 < 10 ^ suc k
    d = one-le-pow (suc k) 10 (lit< tt)

    Past : Type 0
    Past = (10 ^ k * 10 < 2 * (suc m % 10 ^ suc k)) × (up t more true ≡ true)

    Not : Type 0
    Not = (2 * (suc m % 10 ^ suc k) ≤ 10 ^ k * 10) × (up t more true ≡ false)

    go : (10 ^ suc k < 2 * suc m) ⊎ (2 * suc m ≤ 10 ^ suc k) → Past ⊎ Not → floor_div (pos 2 *ℤ negsuc m +ℤ pos (10 ^ suc k)) (2 * 10 ^ suc k) ≡ signed true (suc m / 10 ^ suc k + one_if (up t more true))
    go (inl l) (inl b) =
        ap (λ (z : ℤ). floor_div z (2 * 10 ^ suc k)) (sum_below (2 * suc m) (10 ^ suc k) l)
        ∙ ap (λ (x : ℕ). negsuc x) (minus_up (suc m) (10 ^ suc k) d (omega (arith, b.0, ten))) ∙ minus_sign (suc m / 10 ^ suc k)
        ∙ ap (λ (b : Bool). signed true (suc m / 10 ^ suc k + one_if b)) (sym b.1)
    go (inl l) (inr b) = stays (cases_lt 0 (suc m / 10 ^ suc k))
      where
        half : 2 * (suc m % 10 ^ suc k) ≤ 10 ^ suc k
        half = omega (arith, b.0, ten)

        stays : (0 < suc m / 10 ^ suc k) ⊎ (suc m / 10 ^ suc k ≤ 0) → floor_div (pos 2 *ℤ negsuc m +ℤ pos (10 ^ suc k)) (2 * 10 ^ suc k) ≡ signed true (suc m / 10 ^ suc k + one_if (up t more true))
        stays (inl h) =
            let one : suc m / 10 ^ suc k ≡ (suc m / 10 ^ suc k - 1) + 1 = omega (arith, h) in
            ap (λ (z : ℤ). floor_div z (2 * 10 ^ suc k)) (sum_below (2 * suc m) (10 ^ suc k) l)
            ∙ ap (λ (x : ℕ). negsuc x) (minus_stays (suc m) (10 ^ suc k) (suc m / 10 ^ suc k - 1) d half one) ∙ minus_sign (suc m / 10 ^ suc k - 1)
            ∙ ap (λ (x : ℕ). signed true x) (sym one ∙ sym (add-zero (suc m / 10 ^ suc k))) ∙ ap (λ (b : Bool). signed true (suc m / 10 ^ suc k + one_if b)) (sym b.1)
        stays (inr h) =
            let none : suc m / 10 ^ suc k ≡ 0 = omega (arith, h) in
            let all : suc m ≡ suc m % 10 ^ suc k = low_half (suc m) (10 ^ suc k) d none in
            absurd (omega (arith, l, half, all))
    go (inr l) (inl b) =
        let whole : suc m ≡ suc m / 10 ^ suc k * 10 ^ suc k + suc m % 10 ^ suc k = sym (div-add-mod' (suc m) (10 ^ suc k)) in
        absurd (omega (arith, l, b.0, ten, whole))
    go (inr l) (inr b) =
        let none : suc m / 10 ^ suc k ≡ 0 = div-small (suc m) (10 ^ suc k) (omega (arith, l)) in
        ap (λ (z : ℤ). floor_div z (2 * 10 ^ suc k)) (sum_above (2 * suc m) (10 ^ suc k) l)
        ∙ ap (λ (x : ℕ). pos x) (div-small (10 ^ suc k - 2 * suc m) (2 * 10 ^ suc k) (omega (arith, d)))
        ∙ ap (λ (x : ℕ). signed true (x + one_if false)) (sym none) ∙ ap (λ (b : Bool). signed true (suc m / 10 ^ suc k + one_if b)) (sym b.1)

-- ## The grid number

-- a whole number whose count is the units of r, and the rounded number by it
rounded_by : (minus : Bool) (n : ℕ) (s : ℤ) (r : Scaled) → IsScaled n s r → (q : ℕ) × (r.units ≡ min q units_cap) × (rounded (signed minus n) s ≡ signed minus (q + one_if (goes_up minus r)))
rounded_by minus n (pos e) r h =
    let none : goes_up minus r ≡ false = ap (λ (t : ℕ). up t r.more minus) h.1 in
    (n * 10 ^ e, h.0, times_power minus n (10 ^ e) ∙ ap (λ (x : ℕ). signed minus x) (sym (add-zero (n * 10 ^ e))) ∙ ap (λ (b : Bool). signed minus (n * 10 ^ e + one_if b)) (sym none))
rounded_by false n (negsuc k) r h = (n / 10 ^ suc k, h.units, ap (λ (x : ℕ). pos x) (plus_rounds n k r.tenths r.more h.tenths))
rounded_by true zero (negsuc k) r h =
    let d : 0 < 10 ^ suc k = one-le-pow (suc k) 10 (lit< tt) in
    let p : 0 < 10 ^ k = one-le-pow k 10 (lit< tt) in
    let quotient : 0 / 10 ^ suc k ≡ 0 = div-small 0 (10 ^ suc k) d in
    let rest : 0 % 10 ^ suc k ≡ 0 = mod-small 0 (10 ^ suc k) d in
    let tenths : r.tenths ≡ 0 = h.tenths ∙ ap (λ (x : ℕ). x / 10 ^ k) rest ∙ div-small 0 (10 ^ k) p in
    let none : goes_up true r ≡ false = ap (λ (t : ℕ). up t r.more true) tenths in
    let half : (2 * 0 + 10 ^ suc k) / (2 * 10 ^ suc k) ≡ 0 / 10 ^ suc k = plus_stays 0 (10 ^ suc k) d (omega (arith, rest, d)) in
    (0 / 10 ^ suc k, h.units, ap (λ (x : ℕ). pos x) (half ∙ quotient) ∙ ap (λ (x : ℕ). signed true (x + one_if false)) (sym quotient) ∙ ap (λ (b : Bool). signed true (0 / 10 ^ suc k + one_if b)) (sym none))
rounded_by true (suc m) (negsuc k) r h = (suc m / 10 ^ suc k, h.units, minus_rounds m k r.tenths r.more h.tenths h.more)

fits : (x : ℕ) → x ≤ limit → nat_le x limit ≡ true
fits x l = grind (arith, nat_tests)

too_large : (x : ℕ) → limit < x → nat_le x limit ≡ false
too_large x l = grind (arith, nat_tests)

pub grid_some : (minus : Bool) (size : ℕ) → size ≤ limit → checked_grid (signed minus size) ≡ Some (signed minus size)
grid_some minus size l = ap (λ (b : Bool). cond b (Some (signed minus size)) None) (ap (λ (x : ℕ). nat_le x limit) (signed_size minus size) ∙ fits size l)

pub grid_none : (minus : Bool) (size : ℕ) → limit < size → checked_grid (signed minus size) ≡ None
grid_none minus size l = ap (λ (b : Bool). cond b (Some (signed minus size)) None) (ap (λ (x : ℕ). nat_le x limit) (signed_size minus size) ∙ too_large size l)

pub grid_scaled : (minus : Bool) (n : ℕ) (s : ℤ) (r : Scaled) → IsScaled n s r → checked_grid (rounded (signed minus n) s) ≡ checked_grid (signed minus (r.units + one_if (goes_up minus r)))
grid_scaled minus n s r h = go (rounded_by minus n s r h)
  where
    go : (q : ℕ) × (r.units ≡ min q units_cap) × (rounded (signed minus n) s ≡ signed minus (q + one_if (goes_up minus r))) → checked_grid (rounded (signed minus n) s) ≡ checked_grid (signed minus (r.units + one_if (goes_up minus r)))
    go (q, u, e) = ap (λ (z : ℤ). checked_grid z) e ∙ by (cases_lt q units_cap)
      where
        by : (q < units_cap) ⊎ (units_cap ≤ q) → checked_grid (signed minus (q + one_if (goes_up minus r))) ≡ checked_grid (signed minus (r.units + one_if (goes_up minus r)))
        by (inl l) =
            let same : q ≡ r.units = omega (arith, u, l) in
            ap (λ (x : ℕ). checked_grid (signed minus (x + one_if (goes_up minus r)))) same
        by (inr l) =
            let capped : r.units ≡ units_cap = omega (arith, u, l) in
            grid_none minus (q + one_if (goes_up minus r)) (omega (arith, l)) ∙ sym (grid_none minus (r.units + one_if (goes_up minus r)) (omega (arith, capped)))

-- ## A whole number with zeros added

at_up : (f places : ℕ) → f ≤ places → (pos 0 -ℤ pos f) +ℤ pos places ≡ pos (places - f)
at_up f places l = omega (arith, ints)

-- eighteen zeros are enough to pass the limit
enough : (minus : Bool) (n z : ℕ) → checked_grid (signed minus (n * 10 ^ min z 18)) ≡ checked_grid (signed minus (n * 10 ^ z))
enough minus n z = go (cases_lt z 18)
  where
    past : (n z : ℕ) → 18 ≤ z → limit < suc n * 10 ^ z
    past n z l =
        let a : 10 ^ 18 ≤ 10 ^ z = pow-le-pow_right (lit< tt) l in
        let b : 1 * 10 ^ z ≤ suc n * 10 ^ z = mul-le-mul_right (10 ^ z) (omega arith) in
        omega (arith, a, b)

    from : (n : ℕ) → 18 ≤ z → checked_grid (signed minus (n * 10 ^ 18)) ≡ checked_grid (signed minus (n * 10 ^ z))
    from zero l = ap (λ (x : ℕ). checked_grid (signed minus x)) (zero-mul (10 ^ 18) ∙ sym (zero-mul (10 ^ z)))
    from (suc n) l = grid_none minus (suc n * 10 ^ 18) (past n 18 (omega arith)) ∙ sym (grid_none minus (suc n * 10 ^ z) (past n z l))

    go : (z < 18) ⊎ (18 ≤ z) → checked_grid (signed minus (n * 10 ^ min z 18)) ≡ checked_grid (signed minus (n * 10 ^ z))
    go (inl l) =
        let same : min z 18 ≡ z = omega arith in
        ap (λ (k : ℕ). checked_grid (signed minus (n * 10 ^ k))) same
    go (inr l) =
        let most : min z 18 ≡ 18 = omega arith in
        ap (λ (k : ℕ). checked_grid (signed minus (n * 10 ^ k))) most ∙ from n l

pub grid_raised : (minus : Bool) (n f places : ℕ) → f ≤ places → checked_grid (rounded (signed minus n) ((pos 0 -ℤ pos f) +ℤ pos places)) ≡ checked_grid (signed minus (n * 10 ^ min (places - f) 18))
grid_raised minus n f places l =
    ap (λ (s : ℤ). checked_grid (rounded (signed minus n) s)) (at_up f places l)
    ∙ ap (λ (z : ℤ). checked_grid z) (times_power minus n (10 ^ (places - f))) ∙ sym (enough minus n (places - f))

pub size_grid : (places : ℕ) (bytes text : List ℕ) (minus : Bool) (r : Scaled) → bytes ≡ text → (h : IsSize places (numeral_of bytes) minus r) → grid_of_text places text ≡ checked_grid (rounded (signed minus h.number) (h.exponent +ℤ pos places))
unfolding grid_of_text
size_grid places bytes text minus r e h = ap (λ (t : List ℕ). grid_at places (numeral_of t)) (sym e) ∙ ap (grid_at places) h.numeral_is

pub no_grid : (places : ℕ) (bytes text : List ℕ) → bytes ≡ text → numeral_of bytes ≡ None → grid_of_text places text ≡ None
unfolding grid_of_text
no_grid places bytes text e h = ap (λ (t : List ℕ). grid_at places (numeral_of t)) (sym e) ∙ ap (grid_at places) h
