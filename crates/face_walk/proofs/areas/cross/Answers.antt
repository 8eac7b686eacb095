use Rattle.std.proofs.Common.{refl, ◌*◌, ◌-ℤ◌, ◌*ℤ◌, ℤ, FitsSigned, to_z-of_z, lit<}
use Rattle.std.specs.Int.{w128}
use Rattle.grid_base.specs.Grid.{limit}
use Rattle.grid_base.specs.Sizes.{IsGridNumber}
use Rattle.grid_base.proofs.Bounds.{product_bound, difference_bound, fits_128}
use Rattle.face_walk.specs.Areas.{IsTriangle, most_triangle}
use Rattle.face_walk.proofs.areas.cross.Goals as goal

-- two products of numbers of the grid and their difference fit 128 bits
record Fit (a b c d : ℤ) : Type 0 where
  first : FitsSigned w128 (a *ℤ d)
  second : FitsSigned w128 (b *ℤ c)
  both : FitsSigned w128 (a *ℤ d -ℤ b *ℤ c)
  small : IsTriangle (a *ℤ d -ℤ b *ℤ c)

fit : (a b c d : ℤ) → IsGridNumber a → IsGridNumber b → IsGridNumber c → IsGridNumber d → Fit a b c d
fit a b c d ha hb hc hd =
    let p = product_bound a d limit limit ha hd in
    let q = product_bound b c limit limit hb hc in
    let r = difference_bound (a *ℤ d) (b *ℤ c) (limit * limit) (limit * limit) p q in
    record {
      first = fits_128 (a *ℤ d) (limit * limit) p (lit< tt);
      second = fits_128 (b *ℤ c) (limit * limit) q (lit< tt);
      both = fits_128 (a *ℤ d -ℤ b *ℤ c) most_triangle r (lit< tt);
      small = r;
    }

pub overflow_sub-result : goal.overflow_sub-result
overflow_sub-result c =
    let r₁ = c.ranges.a in
    let f₁ = fits_128 c.args.a limit c.requires.a_small (lit< tt) in
    let r₂ = c.ranges.b in
    let f₂ = fits_128 c.args.b limit c.requires.b_small (lit< tt) in
    let r₃ = c.ranges.c in
    let f₃ = fits_128 c.args.c limit c.requires.c_small (lit< tt) in
    let r₄ = c.ranges.d in
    let f₄ = fits_128 c.args.d limit c.requires.d_small (lit< tt) in
    let f = fit c.args.a c.args.b c.args.c c.args.d c.requires.a_small c.requires.b_small c.requires.c_small c.requires.d_small in
    let f₅ = f.first in
    let f₆ = f.second in
    simp to_z-of_z f.both

pub returns-clause-value : goal.returns-clause-value
returns-clause-value c =
    let r₁ = c.ranges.a in
    let f₁ = fits_128 c.args.a limit c.requires.a_small (lit< tt) in
    let r₂ = c.ranges.b in
    let f₂ = fits_128 c.args.b limit c.requires.b_small (lit< tt) in
    let r₃ = c.ranges.c in
    let f₃ = fits_128 c.args.c limit c.requires.c_small (lit< tt) in
    let r₄ = c.ranges.d in
    let f₄ = fits_128 c.args.d limit c.requires.d_small (lit< tt) in
    let f = fit c.args.a c.args.b c.args.c c.args.d c.requires.a_small c.requires.b_small c.requires.c_small c.requires.d_small in
    let f₅ = f.first in
    let f₆ = f.second in
    let f₇ = f.both in
    simp to_z-of_z refl

pub returns-clause-small : goal.returns-clause-small
returns-clause-small c =
    let r₁ = c.ranges.a in
    let f₁ = fits_128 c.args.a limit c.requires.a_small (lit< tt) in
    let r₂ = c.ranges.b in
    let f₂ = fits_128 c.args.b limit c.requires.b_small (lit< tt) in
    let r₃ = c.ranges.c in
    let f₃ = fits_128 c.args.c limit c.requires.c_small (lit< tt) in
    let r₄ = c.ranges.d in
    let f₄ = fits_128 c.args.d limit c.requires.d_small (lit< tt) in
    let f = fit c.args.a c.args.b c.args.c c.args.d c.requires.a_small c.requires.b_small c.requires.c_small c.requires.d_small in
    let f₅ = f.first in
    let f₆ = f.second in
    let f₇ = f.both in
    simp to_z-of_z f.small
