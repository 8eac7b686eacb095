use Rattle.std.proofs.Common.{◌≡◌, ◌∙◌, refl, arith, ℕ, ◌+◌, ◌*◌, ℤ, pos, negsuc, ◌+ℤ◌, ◌*ℤ◌, unsigned_abs, FitsSigned, to_z-of_z, lit<}
use Rattle.std.proofs.lemmas.Int.{ints}
use Rattle.std.specs.Int.{w128, int_div_euclid}
use Rattle.plane_model.specs.Pixel.{floor_div}
use Rattle.grid_base.specs.Sizes.{most_cross, most_step}
use Rattle.grid_base.proofs.Bounds.{sum_bound, double_bound, fits_128}
use Rattle.hot_pixels.proofs.Shares.{pos_is}
use Rattle.hot_pixels.proofs.crossing.quotient.Goals as goal

floor_is : (z : ℤ) (k : ℕ) → int_div_euclid z (pos k) ≡ floor_div z k
floor_is (pos n) k = refl
floor_is (negsuc n) k = refl

pub returns : goal.returns
returns c =
    let n = c.args.n in
    let w = c.args.w in
    let f₁ = c.ranges.n in
    let f₂ = c.ranges.w in
    let p = double_bound n (most_step * most_cross) c.requires.n_small in
    let f₃ = fits_128 (pos 2 *ℤ n) (2 * (most_step * most_cross)) p (lit< tt) in
    let f₄ = fits_128 (pos 2 *ℤ n +ℤ w) (2 * (most_step * most_cross) + most_cross) (sum_bound (pos 2 *ℤ n) w (2 * (most_step * most_cross)) most_cross p c.requires.w_small) (lit< tt) in
    let f₅ = fits_128 (pos 2 *ℤ w) (2 * most_cross) (double_bound w most_cross c.requires.w_small) (lit< tt) in
    let f₆ : FitsSigned w128 c.div_euclid.result = record { sfits = c.div_euclid.type_inv } in
    let e : c.div_euclid.result ≡ int_div_euclid (pos 2 *ℤ n +ℤ w) (pos 2 *ℤ w) = simp to_z-of_z at c.div_euclid.ensures in
    let g = pos_is w c.requires.w_positive in
    let h : pos 2 *ℤ w ≡ pos (2 * unsigned_abs w) = omega (arith, ints) in
    record { exact = simp to_z-of_z (e ∙ (λ i. int_div_euclid (pos 2 *ℤ n +ℤ g i) (h i)) ∙ floor_is (pos 2 *ℤ n +ℤ pos (unsigned_abs w)) (2 * unsigned_abs w)) }
