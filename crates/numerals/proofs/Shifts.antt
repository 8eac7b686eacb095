-- A numeral whose exponent is counted no further than a cap has the same size as with its own exponent.
use Rattle.std.proofs.Common.{ℕ, suc, ◌≡◌, ◌+◌, ◌-◌, ◌*◌, ◌/◌, ◌^◌, ◌<◌, ◌≤◌, false, not, ◌==◌, min, refl, ap, ◌∙◌, sym, subst, arith, ℤ, pos, negsuc, neg_ℤ, ◌+ℤ◌, ◌-ℤ◌, lit<, ◌⊎◌, inl, inr}
use Rattle.std.proofs.lemmas.Bool.{cases_lt}
use Rattle.std.proofs.lemmas.Int.{ints}
use Rattle.std.proofs.Math.Nat.{pow-le-pow_right}
use Rattle.numerals.specs.Scaling.{IsCut, IsScaled, capped_power, power_cap}
use Rattle.numerals.specs.Units.{units_cap}
use Rattle.numerals.specs.declared.numerals.Scaled.{Scaled}
use Rattle.numerals.proofs.Scaling.{cut_all, div-small, mod-small, pow_ten, raised_capped, saturated}

abbrev pub shifted : ℤ → ℕ → ℕ → ℤ
shifted e f places = (e -ℤ pos f) +ℤ pos places

abbrev pub with_zeros : ℕ → Scaled
with_zeros units = record { units = units; tenths = 0; more = false }

up_at : (m n units x : ℕ) (z : ℤ) → z ≡ pos n → x ≡ min m units_cap → units ≡ min (x * 10 ^ n) units_cap → IsScaled m z (with_zeros units)
up_at m n units x z e a b = subst (λ (y : ℤ). IsScaled m y (with_zeros units)) (sym e) (raised_capped m n x units a b, refl, refl)

up_far : (m n k units x : ℕ) (z : ℤ) → 37 ≤ n → 37 ≤ k → z ≡ pos k → x ≡ min m units_cap → units ≡ min (x * 10 ^ n) units_cap → IsScaled m z (with_zeros units)
up_far m n k units x z l h e a b = subst (λ (y : ℤ). IsScaled m y (with_zeros units)) (sym e) (raised_capped m n x units a b ∙ saturated m n k l h, refl, refl)

pub scaled_up : (m : ℕ) (e : ℤ) (f places n units x : ℕ) → f < 2 ^ 64 → places < 256 → shifted (capped_power e) f places ≡ pos n → x ≡ min m units_cap → units ≡ min (x * 10 ^ n) units_cap
    → IsScaled m (shifted e f places) (with_zeros units)
scaled_up m (pos j) f places n units x lf lp s a b = go (cases_lt j power_cap)
  where
    go : (j < power_cap) ⊎ (power_cap ≤ j) → IsScaled m (shifted (pos j) f places) (with_zeros units)
    go (inl l) =
        let same : min j power_cap ≡ j = omega arith in
        up_at m n units x (shifted (pos j) f places) (ap (λ (i : ℕ). shifted (pos i) f places) (sym same) ∙ s) a b
    go (inr l) =
        let cap : min j power_cap ≡ power_cap = omega arith in
        let t : shifted (pos power_cap) f places ≡ pos n = ap (λ (i : ℕ). shifted (pos i) f places) (sym cap) ∙ s in
        let far : 37 ≤ n = omega (arith, ints, t, lf) in
        let k : ℕ = (j + places) - f in
        let further : 37 ≤ k = omega (arith, l, lf) in
        let at : shifted (pos j) f places ≡ pos k = omega (arith, ints, l, lf) in
        up_far m n k units x (shifted (pos j) f places) far further at a b
scaled_up m (negsuc j) f places n units x lf lp s a b = go (cases_lt (suc j) power_cap)
  where
    go : (suc j < power_cap) ⊎ (power_cap ≤ suc j) → IsScaled m (shifted (negsuc j) f places) (with_zeros units)
    go (inl l) =
        let same : min (suc j) power_cap ≡ suc j = omega arith in
        up_at m n units x (shifted (negsuc j) f places) (ap (λ (i : ℕ). shifted (neg_ℤ (pos i)) f places) (sym same) ∙ s) a b
    go (inr l) =
        let cap : min (suc j) power_cap ≡ power_cap = omega arith in
        let t : shifted (neg_ℤ (pos power_cap)) f places ≡ pos n = ap (λ (i : ℕ). shifted (neg_ℤ (pos i)) f places) (sym cap) ∙ s in
        absurd (omega (arith, ints, t, lp))

down_at : (m k : ℕ) (r : Scaled) (z : ℤ) → z ≡ negsuc k → IsCut m k r → IsScaled m z r
down_at m k r z e h = subst (λ (y : ℤ). IsScaled m y r) (sym e) h

-- where all digits are cut off, how far makes no difference
cut_further : (m j k : ℕ) (r : Scaled) → m < 10 ^ k → k ≤ j → IsCut m k r → IsCut m j r
cut_further m j k r l h c =
    let power : 10 ^ k ≤ 10 ^ j = pow-le-pow_right (lit< tt) h in
    let small : m < 10 ^ j = omega (arith, l, power) in
    let grows : 10 ^ suc k ≡ 10 ^ k * 10 = pow_ten k in
    let wide : m < 10 ^ suc k = omega (arith, grows, l) in
    let s : IsCut m j (record { units = 0; tenths = 0; more = not (m == 0) }) = cut_all m j (not (m == 0)) small refl in
    record {
      units = c.units ∙ ap (λ (x : ℕ). min x units_cap) (div-small m (10 ^ suc k) wide) ∙ s.units;
      tenths = c.tenths ∙ ap (λ (x : ℕ). x / 10 ^ k) (mod-small m (10 ^ suc k) wide) ∙ div-small m (10 ^ k) l ∙ s.tenths;
      more = c.more ∙ ap (λ (x : ℕ). not (x == 0)) (mod-small m (10 ^ k) l) ∙ s.more;
    }

pub scaled_down : (m : ℕ) (e : ℤ) (f places k d : ℕ) (r : Scaled) → f < 2 ^ 64 → d < 2 ^ 65 → m < 10 ^ d → places < 256 → shifted (capped_power e) f places ≡ negsuc k → IsCut m k r → IsScaled m (shifted e f places) r
scaled_down m (pos j) f places k d r lf ld small lp s h = go (cases_lt j power_cap)
  where
    go : (j < power_cap) ⊎ (power_cap ≤ j) → IsScaled m (shifted (pos j) f places) r
    go (inl l) =
        let same : min j power_cap ≡ j = omega arith in
        down_at m k r (shifted (pos j) f places) (ap (λ (i : ℕ). shifted (pos i) f places) (sym same) ∙ s) h
    go (inr l) =
        let cap : min j power_cap ≡ power_cap = omega arith in
        let t : shifted (pos power_cap) f places ≡ negsuc k = ap (λ (i : ℕ). shifted (pos i) f places) (sym cap) ∙ s in
        absurd (omega (arith, ints, t, lf))
scaled_down m (negsuc j) f places k d r lf ld small lp s h = go (cases_lt (suc j) power_cap)
  where
    go : (suc j < power_cap) ⊎ (power_cap ≤ suc j) → IsScaled m (shifted (negsuc j) f places) r
    go (inl l) =
        let same : min (suc j) power_cap ≡ suc j = omega arith in
        down_at m k r (shifted (negsuc j) f places) (ap (λ (i : ℕ). shifted (neg_ℤ (pos i)) f places) (sym same) ∙ s) h
    go (inr l) =
        let cap : min (suc j) power_cap ≡ power_cap = omega arith in
        let t : shifted (neg_ℤ (pos power_cap)) f places ≡ negsuc k = ap (λ (i : ℕ). shifted (neg_ℤ (pos i)) f places) (sym cap) ∙ s in
        let far : d ≤ k = omega (arith, ints, t, ld, lp) in
        let i : ℕ = (j + f) - places in
        let further : k ≤ i = omega (arith, ints, t, l, lp) in
        let at : shifted (negsuc j) f places ≡ negsuc i = omega (arith, ints, l, lp) in
        let power : 10 ^ d ≤ 10 ^ k = pow-le-pow_right (lit< tt) far in
        down_at m i r (shifted (negsuc j) f places) at (cut_further m i k r (omega (arith, small, power)) further h)
