use Rattle.std.proofs.Common.{rules, ◌≡◌, ◌+◌, ◌+ℤ◌, ◌-ℤ◌, ◌*ℤ◌, FitsSigned, to_z-of_z, lit<, w64}
use Rattle.std.specs.Int.{int_signum}
use Rattle.plane_model.specs.Hot.{order_key}
use Rattle.grid_base.specs.Grid.{limit}
use Rattle.grid_base.proofs.Bounds.{sum_bound, fits_64}
use Rattle.hot_pixels.proofs.chains.key_along.Goals as goal
use Rattle.hot_pixels.proofs.chains.key_along.Goals.{After-in_sense-2}

module _ (c : After-in_sense-2) where
  both_fit : FitsSigned w64 (c.in_sense.result +ℤ c.in_sense-2.result)
  both_fit = fits_64 (c.in_sense.result +ℤ c.in_sense-2.result) (limit + limit) (sum_bound c.in_sense.result c.in_sense-2.result limit limit c.in_sense.ensures.small c.in_sense-2.ensures.small) (lit< tt)

  across : c.in_sense.result ≡ int_signum (c.args.s.now.stop.x -ℤ c.args.s.now.start.x) *ℤ c.args.p.now.x
  across = search rules

  upward : c.in_sense-2.result ≡ int_signum (c.args.s.now.stop.y -ℤ c.args.s.now.start.y) *ℤ c.args.p.now.y
  upward = search rules

pub overflow_add-result : goal.overflow_add-result
overflow_add-result c =
    let f₁ : FitsSigned w64 c.in_sense.result = search rules in
    let f₂ : FitsSigned w64 c.in_sense-2.result = search rules in
    simp to_z-of_z (both_fit c)

pub returns : goal.returns
returns c =
    let f₁ : FitsSigned w64 c.in_sense.result = search rules in
    let f₂ : FitsSigned w64 c.in_sense-2.result = search rules in
    let f₃ = both_fit c in
    let e : c.in_sense.result +ℤ c.in_sense-2.result ≡ order_key c.args.s.now c.args.p.now = λ i. across c i +ℤ upward c i in
    record { exact = simp to_z-of_z e }
