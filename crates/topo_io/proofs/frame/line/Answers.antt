use Rattle.std.proofs.Common.{◌≤◌, ◌*◌, refl, ℤ, ◌+ℤ◌, ◌*ℤ◌, unsigned_abs, FitsSigned, to_z-of_z, lit<}
use Rattle.std.specs.Int.{w128}
use Rattle.grid_base.specs.Sizes.{IsStep, most_step}
use Rattle.grid_base.proofs.Bounds.{fits_128, product_bound, sum_bound}
use Rattle.topo_io.specs.Transform.{most_line, part}
use Rattle.topo_io.proofs.frame.line.Goals as goal

record Fit (a b c : ℤ) : Type 0 where
  product : FitsSigned w128 (a *ℤ b)
  sum : FitsSigned w128 (a *ℤ b +ℤ c)
  small : unsigned_abs (a *ℤ b +ℤ c) ≤ most_line

fits : (a b c : ℤ) → IsStep a → unsigned_abs b ≤ part → unsigned_abs c ≤ part → Fit a b c
fits a b c ha hb hc =
    let p : unsigned_abs (a *ℤ b) ≤ most_step * part = product_bound a b most_step part ha hb in
    let s : unsigned_abs (a *ℤ b +ℤ c) ≤ most_line = sum_bound (a *ℤ b) c (most_step * part) part p hc in
    record {
      product = fits_128 (a *ℤ b) (most_step * part) p (lit< tt);
      sum = fits_128 (a *ℤ b +ℤ c) most_line s (lit< tt);
      small = s;
    }

pub overflow_mul-result : goal.overflow_mul-result
overflow_mul-result c =
    let f₁ = c.ranges.number in
    let f₂ = c.ranges.factor in
    let f = fits c.args.number c.args.factor c.args.offset c.requires.number_small c.requires.factor_small c.requires.offset_small in
    let f₃ = f.product in
    simp to_z-of_z f₃

pub overflow_add-result : goal.overflow_add-result
overflow_add-result c =
    let f₁ = c.ranges.number in
    let f₂ = c.ranges.factor in
    let f₃ = c.ranges.offset in
    let f = fits c.args.number c.args.factor c.args.offset c.requires.number_small c.requires.factor_small c.requires.offset_small in
    let f₄ = f.product in
    let f₅ = f.sum in
    simp to_z-of_z f₅

pub returns-clause-value : goal.returns-clause-value
returns-clause-value c =
    let f₁ = c.ranges.number in
    let f₂ = c.ranges.factor in
    let f₃ = c.ranges.offset in
    let f = fits c.args.number c.args.factor c.args.offset c.requires.number_small c.requires.factor_small c.requires.offset_small in
    let f₄ = f.product in
    let f₅ = f.sum in
    simp to_z-of_z refl

pub returns-clause-small : goal.returns-clause-small
returns-clause-small c =
    let f₁ = c.ranges.number in
    let f₂ = c.ranges.factor in
    let f₃ = c.ranges.offset in
    let f = fits c.args.number c.args.factor c.args.offset c.requires.number_small c.requires.factor_small c.requires.offset_small in
    let f₄ = f.product in
    let f₅ = f.sum in
    let s = f.small in
    simp to_z-of_z s
