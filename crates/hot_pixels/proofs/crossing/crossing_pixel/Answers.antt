use Rattle.std.proofs.Common.{◌≡◌, ◌∙◌, sym, ap, rules, arith, ℤ, pos, ◌-ℤ◌, ◌<ℤ◌, unsigned_abs, FitsSigned, to_z-of_z}
use Rattle.std.proofs.lemmas.Int.{ints}
use Rattle.std.specs.Int.{w128}
use Rattle.plane_model.specs.Points.{Segment, cross}
use Rattle.plane_model.specs.Pixel.{crossing_pixel}
use Rattle.grid_base.specs.Sizes.{IsCross}
use Rattle.hot_pixels.specs.Crossing.{pixel_by}
use Rattle.grid_base.proofs.Bounds.{cross_fits}
use Rattle.hot_pixels.proofs.Shares.{crossing_positive, crossing_negative, crossing_on_grid}
use Rattle.hot_pixels.proofs.crossing.crossing_pixel.Goals as goal
use Rattle.hot_pixels.proofs.crossing.crossing_pixel.Goals.{After-cross_of-q}

opposite_small : (z : ℤ) → IsCross z → IsCross (pos 0 -ℤ z)
opposite_small z h = omega (arith, ints)

opposite_fits : (z : ℤ) → IsCross z → FitsSigned w128 (pos 0 -ℤ z)
opposite_fits z h = cross_fits (pos 0 -ℤ z) (opposite_small z h)

-- what is known of the three determinants
module _ (c : After-cross_of-q) where
  abbrev s : Segment
  s = c.args.s.now

  abbrev t : Segment
  t = c.args.t.now

  between_is : c.new-between.result ≡ record { start = s.start; stop = t.start }
  between_is = c.new-between.ensures.made ∙ (λ i. record { start = c.a.ensures.exact i; stop = c.a-2.ensures.exact i })

  p_is : c.cross_of-p.result ≡ cross (record { start = s.start; stop = t.start }) t
  p_is = c.cross_of-p.ensures.value ∙ ap (λ (u : Segment). cross u t) between_is

  q_is : c.cross_of-q.result ≡ cross (record { start = s.start; stop = t.start }) s
  q_is = c.cross_of-q.ensures.value ∙ ap (λ (u : Segment). cross u s) between_is

  turned : c.cross_of-w.result <ℤ pos 0 → pixel_by s (unsigned_abs (pos 0 -ℤ c.cross_of-w.result)) (pos 0 -ℤ c.cross_of-p.result) (pos 0 -ℤ c.cross_of-q.result) ≡ crossing_pixel s t
  turned h = crossing_negative s t c.cross_of-w.result c.cross_of-p.result c.cross_of-q.result h c.cross_of-w.ensures.value p_is q_is

  straight : pos 0 <ℤ c.cross_of-w.result → pixel_by s (unsigned_abs c.cross_of-w.result) c.cross_of-p.result c.cross_of-q.result ≡ crossing_pixel s t
  straight h = crossing_positive s t c.cross_of-w.result c.cross_of-p.result c.cross_of-q.result h c.cross_of-w.ensures.value p_is q_is

pub pixel_at-requires-clause-lands : goal.pixel_at-requires-clause-lands
pixel_at-requires-clause-lands c =
    let f₁ : FitsSigned w128 c.cross_of-w.result = search rules in
    let f₂ : FitsSigned w128 c.cross_of-p.result = search rules in
    let f₃ : FitsSigned w128 c.cross_of-q.result = search rules in
    let g₁ = opposite_fits c.cross_of-w.result c.cross_of-w.ensures.small in
    let g₂ = opposite_fits c.cross_of-p.result c.cross_of-p.ensures.small in
    let g₃ = opposite_fits c.cross_of-q.result c.cross_of-q.ensures.small in
    let h : c.cross_of-w.result <ℤ pos 0 = omega (arith, ints) in
    let e = turned (goal.at.pixel_at-requires-clause-lands c).After-cross_of-q h in
    simp to_z-of_z (λ g f. crossing_on_grid c.args.s.now c.args.t.now c.cross_of-w.ensures.on_grid g (sym e ∙ f))

pub pixel_at-requires-else-w-lt0-clause-lands : goal.pixel_at-requires-else-w-lt0-clause-lands
pixel_at-requires-else-w-lt0-clause-lands c =
    let f₁ : FitsSigned w128 c.cross_of-w.result = search rules in
    let f₂ : FitsSigned w128 c.cross_of-p.result = search rules in
    let f₃ : FitsSigned w128 c.cross_of-q.result = search rules in
    let h : pos 0 <ℤ c.cross_of-w.result = omega (arith, ints) in
    let e = straight (goal.at.pixel_at-requires-else-w-lt0-clause-lands c).After-cross_of-q h in
    simp to_z-of_z (λ g f. crossing_on_grid c.args.s.now c.args.t.now c.cross_of-w.ensures.on_grid g (sym e ∙ f))

pub returns-then-w-lt0 : goal.returns-then-w-lt0
returns-then-w-lt0 c =
    let f₁ : FitsSigned w128 c.cross_of-w.result = search rules in
    let f₂ : FitsSigned w128 c.cross_of-p.result = search rules in
    let f₃ : FitsSigned w128 c.cross_of-q.result = search rules in
    let g₁ = opposite_fits c.cross_of-w.result c.cross_of-w.ensures.small in
    let g₂ = opposite_fits c.cross_of-p.result c.cross_of-p.ensures.small in
    let g₃ = opposite_fits c.cross_of-q.result c.cross_of-q.ensures.small in
    let h : c.cross_of-w.result <ℤ pos 0 = omega (arith, ints) in
    let k : c.pixel_at.result ≡ pixel_by c.args.s.now (unsigned_abs (pos 0 -ℤ c.cross_of-w.result)) (pos 0 -ℤ c.cross_of-p.result) (pos 0 -ℤ c.cross_of-q.result) = simp to_z-of_z at c.pixel_at.ensures.exact in
    record { exact = k ∙ turned (goal.at.returns-then-w-lt0 c).After-cross_of-q h }

pub returns-else-w-lt0 : goal.returns-else-w-lt0
returns-else-w-lt0 c =
    let f₁ : FitsSigned w128 c.cross_of-w.result = search rules in
    let f₂ : FitsSigned w128 c.cross_of-p.result = search rules in
    let f₃ : FitsSigned w128 c.cross_of-q.result = search rules in
    let h : pos 0 <ℤ c.cross_of-w.result = omega (arith, ints) in
    let k : c.pixel_at-else-w-lt0.result ≡ pixel_by c.args.s.now (unsigned_abs c.cross_of-w.result) c.cross_of-p.result c.cross_of-q.result = simp to_z-of_z at c.pixel_at-else-w-lt0.ensures.exact in
    record { exact = k ∙ straight (goal.at.returns-else-w-lt0 c).After-cross_of-q h }
