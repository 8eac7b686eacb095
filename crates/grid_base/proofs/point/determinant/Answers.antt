use Rattle.std.proofs.Common.{◌-ℤ◌, ◌*ℤ◌, ℤ, to_z-of_z, refl, FitsSigned}
use Rattle.std.specs.Int.{w128}
use Rattle.grid_base.specs.Sizes.{IsStep, IsCross}
use Rattle.grid_base.proofs.Bounds.{step_fits_128, steps_product_fits, cross_small, cross_fits}
use Rattle.grid_base.proofs.point.determinant.Goals as goal

-- two products of steps and their difference fit 128 bits
record Fit (a b c d : ℤ) : Type 0 where
  one : FitsSigned w128 a
  two : FitsSigned w128 b
  three : FitsSigned w128 c
  four : FitsSigned w128 d
  first : FitsSigned w128 (a *ℤ d)
  second : FitsSigned w128 (b *ℤ c)
  both : FitsSigned w128 (a *ℤ d -ℤ b *ℤ c)
  small : IsCross (a *ℤ d -ℤ b *ℤ c)

fit : (a b c d : ℤ) → IsStep a → IsStep b → IsStep c → IsStep d → Fit a b c d
fit a b c d ha hb hc hd =
    let small = cross_small a b c d ha hb hc hd in
    record {
      one = step_fits_128 a ha;
      two = step_fits_128 b hb;
      three = step_fits_128 c hc;
      four = step_fits_128 d hd;
      first = steps_product_fits a d ha hd;
      second = steps_product_fits b c hb hc;
      both = cross_fits (a *ℤ d -ℤ b *ℤ c) small;
      small = small;
    }

pub overflow_sub-result : goal.overflow_sub-result
overflow_sub-result c =
    let r₁ = c.ranges.a in
    let r₂ = c.ranges.b in
    let r₃ = c.ranges.c in
    let r₄ = c.ranges.d in
    let f = fit c.args.a c.args.b c.args.c c.args.d c.requires.a_small c.requires.b_small c.requires.c_small c.requires.d_small in
    let f₁ = f.one in
    let f₂ = f.two in
    let f₃ = f.three in
    let f₄ = f.four in
    let f₅ = f.first in
    let f₆ = f.second in
    simp to_z-of_z f.both

pub returns-clause-value : goal.returns-clause-value
returns-clause-value c =
    let r₁ = c.ranges.a in
    let r₂ = c.ranges.b in
    let r₃ = c.ranges.c in
    let r₄ = c.ranges.d in
    let f = fit c.args.a c.args.b c.args.c c.args.d c.requires.a_small c.requires.b_small c.requires.c_small c.requires.d_small in
    let f₁ = f.one in
    let f₂ = f.two in
    let f₃ = f.three in
    let f₄ = f.four in
    let f₅ = f.first in
    let f₆ = f.second in
    let f₇ = f.both in
    simp to_z-of_z refl

pub returns-clause-small : goal.returns-clause-small
returns-clause-small c =
    let r₁ = c.ranges.a in
    let r₂ = c.ranges.b in
    let r₃ = c.ranges.c in
    let r₄ = c.ranges.d in
    let f = fit c.args.a c.args.b c.args.c c.args.d c.requires.a_small c.requires.b_small c.requires.c_small c.requires.d_small in
    let f₁ = f.one in
    let f₂ = f.two in
    let f₃ = f.three in
    let f₄ = f.four in
    let f₅ = f.first in
    let f₆ = f.second in
    let f₇ = f.both in
    simp to_z-of_z f.small
