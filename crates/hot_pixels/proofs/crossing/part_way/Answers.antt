use Rattle.std.proofs.Common.{◌≡◌, sym, ap, subst, rules, ◌≤◌, ◌*◌, ℤ, pos, ◌+ℤ◌, ◌*ℤ◌, unsigned_abs, FitsSigned, to_z-of_z, lit<, w64}
use Rattle.std.specs.Int.{w128}
use Rattle.plane_model.specs.Pixel.{floor_div, rounded}
use Rattle.grid_base.specs.Grid.{limit}
use Rattle.grid_base.specs.Sizes.{IsGridNumber, IsStep, IsCross, most_cross, most_step}
use Rattle.grid_base.proofs.Bounds.{product_bound, fits_128, fits_64, step_fits_128}
use Rattle.hot_pixels.proofs.Shares.{number_from, share_bound}
use Rattle.hot_pixels.proofs.crossing.part_way.Goals as goal
use Rattle.hot_pixels.proofs.crossing.part_way.Goals.{After-quotient}

-- the sum is the rounded number, which lies on the grid
record Known (from r sum : ℤ) : Type 0 where
  sum_is : from +ℤ r ≡ sum
  from_fits : FitsSigned w128 from
  sum_fits : FitsSigned w128 (from +ℤ r)
  sum_fits_64 : FitsSigned w64 (from +ℤ r)

known : (from r sum : ℤ) → IsGridNumber from → IsGridNumber sum → from +ℤ r ≡ sum → Known from r sum
known from r sum a b e = record {
  sum_is = e;
  from_fits = fits_128 from limit a (lit< tt);
  sum_fits = fits_128 (from +ℤ r) limit (subst IsGridNumber (sym e) b) (lit< tt);
  sum_fits_64 = fits_64 (from +ℤ r) limit (subst IsGridNumber (sym e) b) (lit< tt);
}

part_small : (step p : ℤ) → IsStep step → IsCross p → unsigned_abs (step *ℤ p) ≤ most_step * most_cross
part_small step p a b = product_bound step p most_step most_cross a b

module _ (c : After-quotient) where
  small_step : unsigned_abs (c.args.step *ℤ c.args.p) ≤ most_step * most_cross
  small_step = part_small c.args.step c.args.p c.requires.step_small (share_bound c.args.p c.args.w most_cross c.requires.share c.requires.w_small)

  facts : Known c.args.from c.quotient.result (rounded c.args.from c.args.step c.args.p (unsigned_abs c.args.w))
  facts =
      let f₁ = c.ranges.step in
      let g₁ = step_fits_128 c.args.step c.requires.step_small in
      let f₂ = c.ranges.p in
      let f₃ = c.ranges.w in
      let f₄ = fits_128 (c.args.step *ℤ c.args.p) (most_step * most_cross) small_step (lit< tt) in
      let e : c.quotient.result ≡ floor_div (pos 2 *ℤ (c.args.step *ℤ c.args.p) +ℤ pos (unsigned_abs c.args.w)) (2 * unsigned_abs c.args.w) = simp to_z-of_z at c.quotient.ensures.exact in
      known c.args.from c.quotient.result (rounded c.args.from c.args.step c.args.p (unsigned_abs c.args.w)) (number_from c.args.from c.requires.from_on_grid) (number_from (rounded c.args.from c.args.step c.args.p (unsigned_abs c.args.w)) c.requires.lands)
      (ap (λ (z : ℤ). c.args.from +ℤ z) e)

pub quotient-requires-clause-n_small : goal.quotient-requires-clause-n_small
quotient-requires-clause-n_small c =
    let f₁ = c.ranges.step in
    let g₁ = step_fits_128 c.args.step c.requires.step_small in
    let f₂ = c.ranges.p in
    let h = part_small c.args.step c.args.p c.requires.step_small (share_bound c.args.p c.args.w most_cross c.requires.share c.requires.w_small) in
    let f₄ = fits_128 (c.args.step *ℤ c.args.p) (most_step * most_cross) h (lit< tt) in
    simp to_z-of_z h

pub overflow_add-result : goal.overflow_add-result
overflow_add-result c =
    let f₁ = c.ranges.from in
    let f₂ = (facts c).from_fits in
    let f₃ : FitsSigned w128 c.quotient.result = search rules in
    simp to_z-of_z (facts c).sum_fits

pub overflow_cast-result-2 : goal.overflow_cast-result-2
overflow_cast-result-2 c =
    let f₁ = c.ranges.from in
    let f₂ = (facts c).from_fits in
    let f₃ : FitsSigned w128 c.quotient.result = search rules in
    let f₄ = (facts c).sum_fits in
    simp to_z-of_z (facts c).sum_fits_64

pub returns : goal.returns
returns c =
    let f₁ = c.ranges.from in
    let f₂ = (facts c).from_fits in
    let f₃ : FitsSigned w128 c.quotient.result = search rules in
    let f₄ = (facts c).sum_fits in
    let f₅ = (facts c).sum_fits_64 in
    record { exact = simp to_z-of_z (facts c).sum_is }
