-- Places on the grid, taken apart in two parts.
use Rattle.std.proofs.Common.{◌≡◌, ℕ, suc, ◌+◌, ◌-◌, ◌*◌, ◌/◌, ◌%◌, ◌^◌, ◌≤◌, ◌<◌, Bool, true, false, cond, arith, ℤ, pos, negsuc, ◌+ℤ◌, ◌-ℤ◌, ◌*ℤ◌, ◌<ℤ◌, ◌≤ℤ◌, unsigned_abs, Option, Some, None, refl, sym, ap, ◌∙◌}
use Rattle.std.specs.Prelude.{nat_le}
use Rattle.std.specs.Int.{int_div_euclid, int_rem_euclid}
use Rattle.std.proofs.lemmas.Bool.Decides.{nat_tests}
use Rattle.std.proofs.lemmas.Int.{ints}
use Rattle.std.proofs.lemmas.Nat.{div-add-mod', pow-add}
use Rattle.plane_algebra.proofs.Order.{order, lt_of_mul-lt_ℤ, mul-le_ℤ, mul-pos_ℤ}
use Rattle.plane_algebra.proofs.Ring.{ring, num, ◌≐◌, ◌⊞◌, ◌⊠◌}
use Rattle.plane_algebra.proofs.Rounding.{quotient_is}
use Rattle.plane_model.specs.Points.{GridPoint}
use Rattle.grid_base.specs.Grid.{grid_point, limit, most_places}
use Rattle.numerals.specs.Numeral.{checked_grid, floor_div, rounded}
use Rattle.geojson_io.specs.Positions.{numbered_point}
use Rattle.topo_io.specs.Transform.{AxisUnits, axis_place, part}

-- a number is its quotient times the divisor, and the remainder
quotient_and_rest : (z u : ℤ) → pos 0 <ℤ u → z ≡ u *ℤ int_div_euclid z u +ℤ int_rem_euclid z u
quotient_and_rest z (negsuc k) h = absurd (omega order)
quotient_and_rest (pos n) (pos k) h =
    let e : n / k * k + n % k ≡ n = div-add-mod' n k in
    omega order
quotient_and_rest (negsuc n) (pos k) h =
    let e : n / k * k + n % k ≡ n = div-add-mod' n k in
    omega order

-- the quotient is the one whole number so far below
one_quotient : (z k q : ℤ) → pos 0 <ℤ k → (k *ℤ q) ≤ℤ z → z <ℤ (k *ℤ q +ℤ k) → q ≡ int_div_euclid z k
one_quotient z k q h low high =
    let r = int_div_euclid z k in
    let f = quotient_is z k h in
    let f₀ = f.0 in
    let f₁ = f.1 in
    let up = ring 2 (λ k r. k ⊠ (r ⊞ num (pos 1)) ≐ k ⊠ r ⊞ k) tt in
    let e₁ = up k r in
    let e₂ = up k q in
    let a = lt_of_mul-lt_ℤ k q (r +ℤ pos 1) h (omega order) in
    let b = lt_of_mul-lt_ℤ k r (q +ℤ pos 1) h (omega order) in
    omega order

-- the number of whole parts in twice n * s + o, from the parts of s and o
pub parts_below : (n s o p : ℤ) → pos 0 <ℤ p
    → pos 2 *ℤ (n *ℤ int_div_euclid s p +ℤ int_div_euclid o p) +ℤ int_div_euclid (pos 2 *ℤ (n *ℤ int_rem_euclid s p +ℤ int_rem_euclid o p)) p
    ≡ int_div_euclid (pos 2 *ℤ (n *ℤ s +ℤ o)) p
parts_below n s o p h =
    let k : ℤ = n *ℤ int_div_euclid s p +ℤ int_div_euclid o p in
    let x : ℤ = n *ℤ int_rem_euclid s p +ℤ int_rem_euclid o p in
    let d : ℤ = int_div_euclid (pos 2 *ℤ x) p in
    let all : p *ℤ k +ℤ x ≡ n *ℤ s +ℤ o =
    ring 6 (λ p n a b c d. p ⊠ (n ⊠ a ⊞ b) ⊞ (n ⊠ c ⊞ d) ≐ n ⊠ (p ⊠ a ⊞ c) ⊞ (p ⊠ b ⊞ d)) tt p n (int_div_euclid s p) (int_div_euclid o p) (int_rem_euclid s p) (int_rem_euclid o p)
    ∙ sym (λ i. n *ℤ quotient_and_rest s p h i +ℤ quotient_and_rest o p h i) in
    let q = quotient_is (pos 2 *ℤ x) p h in
    let q₀ = q.0 in
    let q₁ = q.1 in
    let e₁ = ring 3 (λ p k d. p ⊠ (num (pos 2) ⊠ k ⊞ d) ≐ num (pos 2) ⊠ (p ⊠ k) ⊞ p ⊠ d) tt p k d in
    let e₂ : pos 2 *ℤ (n *ℤ s +ℤ o) ≡ pos 2 *ℤ (p *ℤ k) +ℤ pos 2 *ℤ x =
    sym (λ i. pos 2 *ℤ all i) ∙ ring 2 (λ a x. num (pos 2) ⊠ (a ⊞ x) ≐ num (pos 2) ⊠ a ⊞ num (pos 2) ⊠ x) tt (p *ℤ k) x in
    one_quotient (pos 2 *ℤ (n *ℤ s +ℤ o)) p (pos 2 *ℤ k +ℤ d) h (omega order) (omega order)

-- whole parts are enough to round to a number of parts, halves upwards
pub parts_round : (z p u : ℤ) → pos 0 <ℤ p → pos 0 <ℤ u → int_div_euclid (int_div_euclid (pos 2 *ℤ z) p +ℤ u) (pos 2 *ℤ u) ≡ int_div_euclid (pos 2 *ℤ z +ℤ p *ℤ u) (pos 2 *ℤ (p *ℤ u))
parts_round z p u h k =
    let d : ℤ = int_div_euclid (pos 2 *ℤ z) p in
    let g : ℤ = int_div_euclid (d +ℤ u) (pos 2 *ℤ u) in
    let q = quotient_is (pos 2 *ℤ z) p h in
    let q₀ = q.0 in
    let q₁ = q.1 in
    let r = quotient_is (d +ℤ u) (pos 2 *ℤ u) (omega order) in
    let r₀ = r.0 in
    let r₁ = r.1 in
    let l = mul-le_ℤ p ((pos 2 *ℤ u) *ℤ g) (d +ℤ u) (omega order) r₀ in
    let m = mul-le_ℤ p ((d +ℤ u) +ℤ pos 1) ((pos 2 *ℤ u) *ℤ g +ℤ pos 2 *ℤ u) (omega order) (omega order) in
    let e₁ = ring 3 (λ p u g. (num (pos 2) ⊠ (p ⊠ u)) ⊠ g ≐ p ⊠ ((num (pos 2) ⊠ u) ⊠ g)) tt p u g in
    let e₂ = ring 3 (λ p d u. p ⊠ (d ⊞ u) ≐ p ⊠ d ⊞ p ⊠ u) tt p d u in
    let e₃ = ring 3 (λ p d u. p ⊠ ((d ⊞ u) ⊞ num (pos 1)) ≐ (p ⊠ d ⊞ p ⊠ u) ⊞ p) tt p d u in
    let e₄ = ring 3 (λ p u g. p ⊠ ((num (pos 2) ⊠ u) ⊠ g ⊞ num (pos 2) ⊠ u) ≐ p ⊠ ((num (pos 2) ⊠ u) ⊠ g) ⊞ num (pos 2) ⊠ (p ⊠ u)) tt p u g in
    let some = mul-pos_ℤ p u h k in
    one_quotient (pos 2 *ℤ z +ℤ p *ℤ u) (pos 2 *ℤ (p *ℤ u)) g (omega order) (omega order) (omega order)

-- the parts that make one on the grid
pub unit_is : (k : ℕ) → k ≤ most_places → part * 10 ^ (most_places - k) ≡ 10 ^ (28 - k)
unit_is k h = sym (pow-add 10 19 (9 - k)) ∙ ap (λ (x : ℕ). 10 ^ x) (let e : 19 + (9 - k) ≡ 28 - k = omega (arith, h) in e)

floor_is : (z : ℤ) (d : ℕ) → int_div_euclid z (pos d) ≡ floor_div z d
floor_is (pos n) d = refl
floor_is (negsuc n) d = refl

-- the place of a quantized number is a quotient
pub place_is : (a : AxisUnits) (k : ℕ) (n : ℤ) → k ≤ most_places
    → int_div_euclid (pos 2 *ℤ (n *ℤ a.scale +ℤ a.offset) +ℤ pos (10 ^ (28 - k))) (pos 2 *ℤ pos (10 ^ (28 - k))) ≡ axis_place a k n
place_is a k n h =
    let m : ℤ = n *ℤ a.scale +ℤ a.offset in
    let s : 28 - k ≡ suc (27 - k) = omega (arith, h) in
    let e : pos k -ℤ pos 28 ≡ negsuc (27 - k) = omega (arith, ints, h) in
    (λ i. int_div_euclid (pos 2 *ℤ m +ℤ pos (10 ^ s i)) (pos 2 *ℤ pos (10 ^ s i)))
    ∙ floor_is (pos 2 *ℤ m +ℤ pos (10 ^ suc (27 - k))) (2 * 10 ^ suc (27 - k))
    ∙ sym (ap (λ (x : ℤ). rounded m x) e)

few : (x : ℕ) → x ≤ limit → nat_le x limit ≡ true
few x l = grind (arith, nat_tests)

many : (x : ℕ) → limit < x → nat_le x limit ≡ false
many x l = grind (arith, nat_tests)

-- a place that the grid has, and one past it
pub within_grid : (p z : ℤ) → p ≡ z → unsigned_abs p ≤ limit → Some p ≡ checked_grid z
within_grid p z e l = ap (λ (b : Bool). cond b (Some p) None) (sym (few (unsigned_abs p) l)) ∙ ap (λ (x : ℤ). checked_grid x) e

pub past_grid : (p z : ℤ) → p ≡ z → limit < unsigned_abs p → None ≡ checked_grid z
past_grid p z e l = ap (λ (b : Bool). cond b (Some p) None) (sym (many (unsigned_abs p) l)) ∙ ap (λ (x : ℤ). checked_grid x) e

-- the point of two numbers that the grid has
pub point_is : (a b : Option ℤ) (x y : ℤ) (r : Option GridPoint) → Some x ≡ a → Some y ≡ b → r ≡ grid_point x y → r ≡ numbered_point a b
point_is a b x y r e f g = g ∙ (λ i. numbered_point (e i) (f i))
