use Rattle.std.proofs.Common.{rules, ◌≡◌, ◌+◌, ◌*◌, ◌≤◌, ◌∙◌, sym, subst, ◌-ℤ◌, ◌*ℤ◌, ℤ, unsigned_abs, FitsSigned, to_z-of_z, lit<, w64}
use Rattle.std.specs.Int.{w128}
use Rattle.hot_pixels.specs.Sides.{IsNearby, most_nearby}
use Rattle.grid_base.proofs.Bounds.{product_bound, difference_bound, fits_128}
use Rattle.hot_pixels.proofs.half_open.determinant.Goals as goal
use Rattle.hot_pixels.proofs.half_open.determinant.Goals.{After-product-2}

-- two products of numbers nearby
product_small : (z a b : ℤ) → z ≡ a *ℤ b → IsNearby a → IsNearby b → unsigned_abs z ≤ most_nearby * most_nearby
product_small z a b e h k = subst (λ (y : ℤ). unsigned_abs y ≤ most_nearby * most_nearby) (sym e) (product_bound a b most_nearby most_nearby h k)

module _ (c : After-product-2) where
  first : c.product.result ≡ c.a.inside.at_start *ℤ c.b.inside.at_stop
  first =
      let f₁ : FitsSigned w64 c.a.inside.at_start = search rules in
      let f₂ : FitsSigned w64 c.b.inside.at_stop = search rules in
      simp to_z-of_z at c.product.ensures.value

  second : c.product-2.result ≡ c.a.inside.at_stop *ℤ c.b.inside.at_start
  second =
      let f₁ : FitsSigned w64 c.a.inside.at_stop = search rules in
      let f₂ : FitsSigned w64 c.b.inside.at_start = search rules in
      simp to_z-of_z at c.product-2.ensures.value

  both_fit : FitsSigned w128 (c.product.result -ℤ c.product-2.result)
  both_fit = fits_128 (c.product.result -ℤ c.product-2.result) (most_nearby * most_nearby + most_nearby * most_nearby)
      (difference_bound c.product.result c.product-2.result (most_nearby * most_nearby) (most_nearby * most_nearby)
      (product_small c.product.result c.a.inside.at_start c.b.inside.at_stop first c.a.invariant.start c.b.invariant.stop)
      (product_small c.product-2.result c.a.inside.at_stop c.b.inside.at_start second c.a.invariant.stop c.b.invariant.start))
      (lit< tt)

pub overflow_sub-result : goal.overflow_sub-result
overflow_sub-result c =
    let f₁ : FitsSigned w128 c.product.result = search rules in
    let f₂ : FitsSigned w128 c.product-2.result = search rules in
    simp to_z-of_z (both_fit c)

pub returns : goal.returns
returns c =
    let f₁ : FitsSigned w128 c.product.result = search rules in
    let f₂ : FitsSigned w128 c.product-2.result = search rules in
    let f₃ = both_fit c in
    let a = c.a.view_is in
    let b = c.b.view_is in
    let e : c.product.result -ℤ c.product-2.result ≡ c.args.a.at_start *ℤ c.args.b.at_stop -ℤ c.args.a.at_stop *ℤ c.args.b.at_start =
    (λ i. first c i -ℤ second c i) ∙ (λ i. (a i).at_start *ℤ (b i).at_stop -ℤ (a i).at_stop *ℤ (b i).at_start) in
    record { exact = simp to_z-of_z e }
