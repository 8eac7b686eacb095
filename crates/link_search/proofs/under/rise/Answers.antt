use Rattle.std.proofs.Common.{◌≡◌, ◌∙◌, ◌*◌, ◌≤◌, ◌-ℤ◌, ◌*ℤ◌, unsigned_abs, FitsSigned, to_z-of_z, lit<, w64}
use Rattle.std.specs.Int.{w128}
use Rattle.plane_model.specs.Points.{at}
use Rattle.plane_model.specs.Below.{rise}
use Rattle.grid_base.proofs.Bounds.{cross_fits, difference_bound, fits_128, step_fits}
use Rattle.link_search.specs.Under.{most_scaled}
use Rattle.link_search.proofs.under.rise.Goals as goal

pub returns : goal.returns
returns c =
    let a = c.scaled.result in
    let b = c.scaled-2.result in
    let f₁ : FitsSigned w128 a = fits_128 a most_scaled c.scaled.ensures.small (lit< tt) in
    let f₂ : FitsSigned w128 b = fits_128 b most_scaled c.scaled-2.ensures.small (lit< tt) in
    let small : unsigned_abs (a -ℤ b) ≤ 2 * most_scaled = difference_bound a b most_scaled most_scaled c.scaled.ensures.small c.scaled-2.ensures.small in
    let f₃ : FitsSigned w128 (a -ℤ b) = fits_128 (a -ℤ b) (2 * most_scaled) small (lit< tt) in
    let g₁ : FitsSigned w64 c.width_of.result = step_fits c.width_of.result c.width_of.ensures.small in
    let g₂ : FitsSigned w64 c.width_of-2.result = step_fits c.width_of-2.result c.width_of-2.ensures.small in
    let g₃ : FitsSigned w128 c.side_of.result = cross_fits c.side_of.result c.side_of.ensures.small in
    let g₄ : FitsSigned w128 c.side_of-2.result = cross_fits c.side_of-2.result c.side_of-2.ensures.small in
    let u : a ≡ c.width_of.result *ℤ c.side_of.result = simp to_z-of_z at c.scaled.ensures.value in
    let v : b ≡ c.width_of-2.result *ℤ c.side_of-2.result = simp to_z-of_z at c.scaled-2.ensures.value in
    let e : a -ℤ b ≡ rise (at c.args.p) c.args.k c.args.l =
    (λ i. u i -ℤ v i) ∙ (λ i. c.width_of.ensures.exact i *ℤ c.side_of.ensures.exact i -ℤ c.width_of-2.ensures.exact i *ℤ c.side_of-2.ensures.exact i) in
    simp to_z-of_z (record { exact = e; small = small })
