-- A segment meets the pixel of no point that is farther from its line than a pixel reaches.
use Rattle.std.proofs.Common.{◌≡◌, ap, ◌∙◌, false, suc, ℤ, pos, negsuc, ◌+ℤ◌, ◌-ℤ◌, ◌*ℤ◌, neg_ℤ, ◌≤ℤ◌, ◌<ℤ◌, unsigned_abs}
use Rattle.plane_algebra.proofs.Ring.{ring, ◌⊞◌, ◌⊟◌, ◌⊠◌, ⊖◌, num, ◌≐◌}
use Rattle.plane_algebra.proofs.Order.{order, mul-le_ℤ, le_of_mul-le_ℤ}
use Rattle.plane_algebra.proofs.Tests.{by_test}
use Rattle.plane_model.specs.Points.{GridPoint, RationalPoint, Segment}
use Rattle.plane_model.specs.Pixel.{meets, Meets}
use Rattle.plane_snapping.proofs.MeetsComputed.{meets_is_computed}

-- a product with a number from -w to w
product_up : (d r w : ℤ) → neg_ℤ w ≤ℤ r → r ≤ℤ w → (d *ℤ r) ≤ℤ (pos (unsigned_abs d) *ℤ w)
product_up (pos n) r w low high = mul-le_ℤ (pos n) r w (omega order) high
product_up (negsuc n) r w low high =
    let e = mul-le_ℤ (pos (suc n)) (neg_ℤ r) w (omega order) (omega order) in
    let f = ring 2 (λ m r. (⊖ m) ⊠ r ≐ m ⊠ (⊖ r)) tt (pos (suc n)) r in
    omega order

-- the reach of a pixel, doubled
abbrev pub reach : ℤ → ℤ → ℤ
reach dx dy = pos (unsigned_abs dx) +ℤ pos (unsigned_abs dy)

-- a point of the line in a pixel: the determinant of the centre is that of the way from the one to the other
weighed : (dx dy ax ay gx gy X Y W : ℤ) → dx *ℤ (Y -ℤ ay *ℤ W) ≡ dy *ℤ (X -ℤ ax *ℤ W) → W *ℤ (pos 2 *ℤ (dx *ℤ (gy -ℤ ay) -ℤ dy *ℤ (gx -ℤ ax))) ≡ dy *ℤ (pos 2 *ℤ X -ℤ pos 2 *ℤ (gx *ℤ W)) -ℤ dx *ℤ (pos 2 *ℤ Y -ℤ pos 2 *ℤ (gy *ℤ W))
weighed dx dy ax ay gx gy X Y W e =
    ring 9 (λ dx dy ax ay gx gy X Y W. W ⊠ (num (pos 2) ⊠ (dx ⊠ (gy ⊟ ay) ⊟ dy ⊠ (gx ⊟ ax))) ≐ (dy ⊠ (num (pos 2) ⊠ X ⊟ num (pos 2) ⊠ (gx ⊠ W)) ⊟ dx ⊠ (num (pos 2) ⊠ Y ⊟ num (pos 2) ⊠ (gy ⊠ W))) ⊞ num (pos 2) ⊠ (dx ⊠ (Y ⊟ ay ⊠ W) ⊟ dy ⊠ (X ⊟ ax ⊠ W))) tt dx dy ax ay gx gy X Y W
    ∙ ap (λ (z : ℤ). (dy *ℤ (pos 2 *ℤ X -ℤ pos 2 *ℤ (gx *ℤ W)) -ℤ dx *ℤ (pos 2 *ℤ Y -ℤ pos 2 *ℤ (gy *ℤ W))) +ℤ pos 2 *ℤ (z -ℤ dy *ℤ (X -ℤ ax *ℤ W))) e
    ∙ ring 2 (λ a b. a ⊞ num (pos 2) ⊠ (b ⊟ b) ≐ a) tt (dy *ℤ (pos 2 *ℤ X -ℤ pos 2 *ℤ (gx *ℤ W)) -ℤ dx *ℤ (pos 2 *ℤ Y -ℤ pos 2 *ℤ (gy *ℤ W))) (dy *ℤ (X -ℤ ax *ℤ W))

-- a factor that is not positive turns the order round
pub falling : (d m n : ℤ) → d ≤ℤ pos 0 → m ≤ℤ n → (d *ℤ n) ≤ℤ (d *ℤ m)
falling d m n h l =
    let e = mul-le_ℤ (neg_ℤ d) m n (omega order) l in
    let minus = ring 2 (λ a b. (⊖ a) ⊠ b ≐ ⊖ (a ⊠ b)) tt in
    let p = minus d m in
    let q = minus d n in
    omega order

-- (a, b) is the step of the segment, (u, v) that from its start to the point
module _ (s : Segment) (g : GridPoint) (a b : ℤ) (ea : a ≡ s.stop.x -ℤ s.start.x) (eb : b ≡ s.stop.y -ℤ s.start.y) where
  abbrev u : ℤ
  u = g.x -ℤ s.start.x

  abbrev v : ℤ
  v = g.y -ℤ s.start.y

  -- the determinant of a point whose pixel is met is small
  near_the_line : Meets s g → ((pos 2 *ℤ (a *ℤ v -ℤ b *ℤ u)) ≤ℤ reach a b) × ((pos 2 *ℤ (b *ℤ u -ℤ a *ℤ v)) ≤ℤ reach a b)
  near_the_line m =
      let P : RationalPoint = m.0 in
      let X = P.X in
      let Y = P.Y in
      let W = P.W in
      let positive = P.positive in
      let xl = m.2.across.low in
      let xh = m.2.across.high in
      let yl = m.2.upward.low in
      let yh = m.2.upward.high in
      let below = ring 2 (λ g W. (num (pos 2) ⊠ g ⊟ num (pos 1)) ⊠ W ≐ num (pos 2) ⊠ (g ⊠ W) ⊟ W) tt in
      let above = ring 2 (λ g W. (num (pos 2) ⊠ g ⊞ num (pos 1)) ⊠ W ≐ num (pos 2) ⊠ (g ⊠ W) ⊞ W) tt in
      let xl₁ = below g.x W in
      let xh₁ = above g.x W in
      let yl₁ = below g.y W in
      let yh₁ = above g.y W in
      let x = pos 2 *ℤ X -ℤ pos 2 *ℤ (g.x *ℤ W) in
      let y = pos 2 *ℤ Y -ℤ pos 2 *ℤ (g.y *ℤ W) in
      let on : a *ℤ (Y -ℤ s.start.y *ℤ W) -ℤ b *ℤ (X -ℤ s.start.x *ℤ W) ≡ pos 0 = (
      (λ i. ea i *ℤ (Y -ℤ s.start.y *ℤ W) -ℤ eb i *ℤ (X -ℤ s.start.x *ℤ W))
      ∙ ring 7 (λ ax ay bx by X Y W. (bx ⊟ ax) ⊠ (Y ⊟ ay ⊠ W) ⊟ (by ⊟ ay) ⊠ (X ⊟ ax ⊠ W) ≐ (ay ⊠ num (pos 1) ⊟ by ⊠ num (pos 1)) ⊠ X ⊞ (bx ⊠ num (pos 1) ⊟ ax ⊠ num (pos 1)) ⊠ Y ⊞ (ax ⊠ by ⊟ ay ⊠ bx) ⊠ W) tt s.start.x s.start.y s.stop.x s.stop.y X Y W
      ∙ m.1.collinear
      ) in
      let line : a *ℤ (Y -ℤ s.start.y *ℤ W) ≡ b *ℤ (X -ℤ s.start.x *ℤ W) = omega order in
      let e = weighed a b s.start.x s.start.y g.x g.y X Y W line in
      let b₁ : (b *ℤ x) ≤ℤ (pos (unsigned_abs b) *ℤ W) = product_up b x W (omega order) (omega order) in
      let b₂ : (b *ℤ neg_ℤ x) ≤ℤ (pos (unsigned_abs b) *ℤ W) = product_up b (neg_ℤ x) W (omega order) (omega order) in
      let a₁ : (a *ℤ y) ≤ℤ (pos (unsigned_abs a) *ℤ W) = product_up a y W (omega order) (omega order) in
      let a₂ : (a *ℤ neg_ℤ y) ≤ℤ (pos (unsigned_abs a) *ℤ W) = product_up a (neg_ℤ y) W (omega order) (omega order) in
      let minus = ring 2 (λ m n. m ⊠ (⊖ n) ≐ ⊖ (m ⊠ n)) tt in
      let b₃ = minus b x in
      let a₃ = minus a y in
      let all = ring 3 (λ m n W. W ⊠ (m ⊞ n) ≐ m ⊠ W ⊞ n ⊠ W) tt (pos (unsigned_abs a)) (pos (unsigned_abs b)) W in
      let turned = ring 3 (λ W m n. W ⊠ (num (pos 2) ⊠ (n ⊟ m)) ≐ ⊖ (W ⊠ (num (pos 2) ⊠ (m ⊟ n)))) tt W (a *ℤ v) (b *ℤ u) in (
        le_of_mul-le_ℤ W (pos 2 *ℤ (a *ℤ v -ℤ b *ℤ u)) (reach a b) positive (omega order),
        le_of_mul-le_ℤ W (pos 2 *ℤ (b *ℤ u -ℤ a *ℤ v)) (reach a b) positive (omega order),
      )

  -- a rectangle left of the line: (x, y) is where the determinant is least
  pub left_aside : (x y r cross twice : ℤ) → (b *ℤ u) ≤ℤ (b *ℤ x) → (a *ℤ y) ≤ℤ (a *ℤ v) → r ≡ reach a b → cross ≡ a *ℤ y -ℤ b *ℤ x → twice ≡ pos 2 *ℤ cross → r <ℤ twice → meets s g ≡ false
  left_aside x y r cross twice h k er ec et l = by_test (meets s g) (λ e. absurd (
      let n = (near_the_line ((meets_is_computed s g).0 e)).0 in
      omega order)) (λ e. e)

  -- a rectangle right of it
  pub right_aside : (x y r cross twice : ℤ) → (b *ℤ x) ≤ℤ (b *ℤ u) → (a *ℤ v) ≤ℤ (a *ℤ y) → r ≡ reach a b → cross ≡ b *ℤ x -ℤ a *ℤ y → twice ≡ pos 2 *ℤ cross → r <ℤ twice → meets s g ≡ false
  right_aside x y r cross twice h k er ec et l = by_test (meets s g) (λ e. absurd (
      let n = (near_the_line ((meets_is_computed s g).0 e)).1 in
      omega order)) (λ e. e)
