use Rattle.std.proofs.Common.{refl, ◌*ℤ◌, to_z-of_z, lit<}
use Rattle.grid_base.specs.Sizes.{most_cross, most_step}
use Rattle.grid_base.proofs.Bounds.{product_bound, fits_128, step_fits_128}
use Rattle.link_search.specs.Under.{IsScaled, most_scaled}
use Rattle.link_search.proofs.under.scaled.Goals as goal

pub returns-clause-value : goal.returns-clause-value
returns-clause-value c =
    let r₁ = c.ranges.across in
    let f₁ = step_fits_128 c.args.across c.requires.step in
    let f₂ = c.ranges.side in
    let p : IsScaled (c.args.across *ℤ c.args.side) = product_bound c.args.across c.args.side most_step most_cross c.requires.step c.requires.cross in
    let f₃ = fits_128 (c.args.across *ℤ c.args.side) most_scaled p (lit< tt) in
    simp to_z-of_z refl

pub returns-clause-small : goal.returns-clause-small
returns-clause-small c =
    let r₁ = c.ranges.across in
    let f₁ = step_fits_128 c.args.across c.requires.step in
    let f₂ = c.ranges.side in
    let p : IsScaled (c.args.across *ℤ c.args.side) = product_bound c.args.across c.args.side most_step most_cross c.requires.step c.requires.cross in
    let f₃ = fits_128 (c.args.across *ℤ c.args.side) most_scaled p (lit< tt) in
    simp to_z-of_z p
