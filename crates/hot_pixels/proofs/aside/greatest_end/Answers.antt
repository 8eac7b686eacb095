use Rattle.std.proofs.Common.{arith, pos, ◌≤ℤ◌, ◌<ℤ◌, to_z-of_z}
use Rattle.std.proofs.lemmas.Int.{ints}
use Rattle.plane_algebra.proofs.Order.{order, mul-le_ℤ}
use Rattle.hot_pixels.proofs.AsideLemmas.{falling}
use Rattle.hot_pixels.proofs.aside.greatest_end.Goals as goal

pub returns-then-factor-lt0-clause-greatest : goal.returns-then-factor-lt0-clause-greatest
returns-then-factor-lt0-clause-greatest c = λ v l h.
    let f = c.ranges.low in
    let n : c.args.factor <ℤ pos 0 = omega (arith, ints) in
    simp to_z-of_z (falling c.args.factor c.args.low v (omega order) l)

pub returns-else-factor-lt0-clause-greatest : goal.returns-else-factor-lt0-clause-greatest
returns-else-factor-lt0-clause-greatest c = λ v l h.
    let f = c.ranges.high in
    let n : pos 0 ≤ℤ c.args.factor = omega (arith, ints) in
    simp to_z-of_z (mul-le_ℤ c.args.factor v c.args.high n h)
