use Rattle.std.proofs.Common.{◌≡◌, ◌∙◌, sym, ap, subst, rules, true, Some, IsTrue, ℤ, ◌-ℤ◌, ◌≤ℤ◌, unsigned_abs, FitsSigned, to_z-of_z, w64}
use Rattle.plane_model.specs.Points.{GridPoint}
use Rattle.plane_model.specs.Pixel.{rounded}
use Rattle.grid_base.specs.Grid.{IsOnGrid, greatest, is_grid_number, least}
use Rattle.hot_pixels.specs.Crossing.{is_share, pixel_by}
use Rattle.grid_base.proofs.Bounds.{step_fits}
use Rattle.hot_pixels.proofs.Shares.{no_first, no_second, both_shares, number_to}
use Rattle.hot_pixels.proofs.crossing.pixel_at.Goals as goal
use Rattle.hot_pixels.proofs.crossing.pixel_at.Goals.{After-step-dx}

pub returns-then-not-is_share_of : goal.returns-then-not-is_share_of
returns-then-not-is_share_of c =
    let f₁ = c.ranges.p in
    let f₂ = c.ranges.w in
    let e : c.is_share_of.result ≡ is_share c.args.p c.args.w = simp to_z-of_z at c.is_share_of.ensures.exact in
    record { exact = no_first c.args.s c.args.w c.args.p c.args.q c.requires.w_positive (sym e ∙ c.if-not-is_share_of.true) }

pub returns-then-not-is_share_of-2 : goal.returns-then-not-is_share_of-2
returns-then-not-is_share_of-2 c =
    let f₁ = c.ranges.p in
    let f₂ = c.ranges.w in
    let f₃ = c.ranges.q in
    let e : c.is_share_of.result ≡ is_share c.args.p c.args.w = simp to_z-of_z at c.is_share_of.ensures.exact in
    let f : c.is_share_of-2.result ≡ is_share c.args.q c.args.w = simp to_z-of_z at c.is_share_of-2.ensures.exact in
    record { exact = no_second c.args.s c.args.w c.args.p c.args.q c.requires.w_positive (sym e ∙ c.if-not-is_share_of.false) (sym f ∙ c.if-not-is_share_of-2.true) }

module _ (c : After-step-dx) where
  abbrev point : GridPoint
  point = record { x = rounded c.args.s.start.x (c.args.s.stop.x -ℤ c.args.s.start.x) c.args.p (unsigned_abs c.args.w); y = rounded c.args.s.start.y (c.args.s.stop.y -ℤ c.args.s.start.y) c.args.p (unsigned_abs c.args.w) }

  p_share : is_share c.args.p c.args.w ≡ true
  p_share =
      let f₁ = c.ranges.p in
      let f₂ = c.ranges.w in
      let e : c.is_share_of.result ≡ is_share c.args.p c.args.w = simp to_z-of_z at c.is_share_of.ensures.exact in
      sym e ∙ c.if-not-is_share_of.false

  q_share : is_share c.args.q c.args.w ≡ true
  q_share =
      let f₁ = c.ranges.q in
      let f₂ = c.ranges.w in
      let e : c.is_share_of-2.result ≡ is_share c.args.q c.args.w = simp to_z-of_z at c.is_share_of-2.ensures.exact in
      sym e ∙ c.if-not-is_share_of-2.false

  pixel_is : pixel_by c.args.s (unsigned_abs c.args.w) c.args.p c.args.q ≡ Some point
  pixel_is = both_shares c.args.s c.args.w c.args.p c.args.q c.requires.w_positive p_share q_share

  on_grid : IsOnGrid point
  on_grid = c.requires.lands point pixel_is

  dx_is : c.step-dx.result.0 ≡ c.args.s.stop.x -ℤ c.args.s.start.x
  dx_is = c.step-dx.ensures.across ∙ (λ i. (c.b.ensures.exact i).x -ℤ (c.a.ensures.exact i).x)

  dy_is : c.step-dx.result.1 ≡ c.args.s.stop.y -ℤ c.args.s.start.y
  dy_is = c.step-dx.ensures.upward ∙ (λ i. (c.b.ensures.exact i).y -ℤ (c.a.ensures.exact i).y)

  -- the demands of the two calls, at numbers that are those of s
  from_ok : (v : ℤ) (p : GridPoint) → (z : ℤ) → v ≡ z → least ≤ℤ z → z ≤ℤ greatest → IsTrue (is_grid_number v)
  from_ok v p z e l u = subst (λ (w : ℤ). IsTrue (is_grid_number w)) (sym e) (number_to z l u)

  lands_ok : (from step : ℤ) (a d : ℤ) → from ≡ a → step ≡ d → least ≤ℤ rounded a d c.args.p (unsigned_abs c.args.w) → rounded a d c.args.p (unsigned_abs c.args.w) ≤ℤ greatest →
      IsTrue (is_grid_number (rounded from step c.args.p (unsigned_abs c.args.w)))
  lands_ok from step a d e f l u = subst (λ (v : ℤ). IsTrue (is_grid_number v)) (λ i. rounded (sym e i) (sym f i) c.args.p (unsigned_abs c.args.w)) (number_to (rounded a d c.args.p (unsigned_abs c.args.w)) l u)

pub part_way-x-requires-clause-share : goal.part_way-x-requires-clause-share
part_way-x-requires-clause-share c =
    let f₁ = c.ranges.p in
    let f₂ = c.ranges.w in
    simp to_z-of_z (p_share (goal.at.part_way-x-requires-clause-share c).After-step-dx)

pub part_way-x-requires-clause-from_on_grid : goal.part_way-x-requires-clause-from_on_grid
part_way-x-requires-clause-from_on_grid c =
    let f₁ : FitsSigned w64 c.x.result = search rules in
    let d = (goal.at.part_way-x-requires-clause-from_on_grid c).After-step-dx in
    let b = c.step-dx.ensures.from_on_grid in
    simp to_z-of_z (from_ok d c.x.result c.a.result c.a.result.x (c.x.ensures.exact ∙ (λ i. (c.a-2.ensures.exact i).x) ∙ sym (λ i. (c.a.ensures.exact i).x)) b.x_low b.x_high)

pub part_way-x-requires-clause-lands : goal.part_way-x-requires-clause-lands
part_way-x-requires-clause-lands c =
    let f₁ : FitsSigned w64 c.x.result = search rules in
    let f₂ = step_fits c.step-dx.result.0 c.step-dx.ensures.across_small in
    let f₃ = c.ranges.p in
    let f₄ = c.ranges.w in
    let d = (goal.at.part_way-x-requires-clause-lands c).After-step-dx in
    simp to_z-of_z (lands_ok d c.x.result c.step-dx.result.0 c.args.s.start.x (c.args.s.stop.x -ℤ c.args.s.start.x) (c.x.ensures.exact ∙ (λ i. (c.a-2.ensures.exact i).x)) (dx_is d) (on_grid d).x_low (on_grid d).x_high)

pub part_way-y-requires-clause-share : goal.part_way-y-requires-clause-share
part_way-y-requires-clause-share c =
    let f₁ = c.ranges.p in
    let f₂ = c.ranges.w in
    simp to_z-of_z (p_share (goal.at.part_way-y-requires-clause-share c).After-step-dx)

pub part_way-y-requires-clause-from_on_grid : goal.part_way-y-requires-clause-from_on_grid
part_way-y-requires-clause-from_on_grid c =
    let f₁ : FitsSigned w64 c.y.result = search rules in
    let d = (goal.at.part_way-y-requires-clause-from_on_grid c).After-step-dx in
    let b = c.step-dx.ensures.from_on_grid in
    simp to_z-of_z (from_ok d c.y.result c.a.result c.a.result.y (c.y.ensures.exact ∙ (λ i. (c.a-3.ensures.exact i).y) ∙ sym (λ i. (c.a.ensures.exact i).y)) b.y_low b.y_high)

pub part_way-y-requires-clause-lands : goal.part_way-y-requires-clause-lands
part_way-y-requires-clause-lands c =
    let f₁ : FitsSigned w64 c.y.result = search rules in
    let f₂ = step_fits c.step-dx.result.1 c.step-dx.ensures.upward_small in
    let f₃ = c.ranges.p in
    let f₄ = c.ranges.w in
    let d = (goal.at.part_way-y-requires-clause-lands c).After-step-dx in
    simp to_z-of_z (lands_ok d c.y.result c.step-dx.result.1 c.args.s.start.y (c.args.s.stop.y -ℤ c.args.s.start.y) (c.y.ensures.exact ∙ (λ i. (c.a-3.ensures.exact i).y)) (dy_is d) (on_grid d).y_low (on_grid d).y_high)

pub returns : goal.returns
returns c =
    let s = c.args.s in
    let f₁ : FitsSigned w64 c.x.result = search rules in
    let f₂ : FitsSigned w64 c.y.result = search rules in
    let f₃ = step_fits c.step-dx.result.0 c.step-dx.ensures.across_small in
    let f₄ = step_fits c.step-dx.result.1 c.step-dx.ensures.upward_small in
    let f₅ = c.ranges.p in
    let f₆ = c.ranges.w in
    let f₇ : FitsSigned w64 c.part_way-x.result = search rules in
    let f₈ : FitsSigned w64 c.part_way-y.result = search rules in
    let d = (goal.at.returns c).After-step-dx in
    let x₀ : c.part_way-x.result ≡ rounded c.x.result c.step-dx.result.0 c.args.p (unsigned_abs c.args.w) = simp to_z-of_z at c.part_way-x.ensures.exact in
    let y₀ : c.part_way-y.result ≡ rounded c.y.result c.step-dx.result.1 c.args.p (unsigned_abs c.args.w) = simp to_z-of_z at c.part_way-y.ensures.exact in
    let ex : c.x.result ≡ s.start.x = c.x.ensures.exact ∙ (λ i. (c.a-2.ensures.exact i).x) in
    let ey : c.y.result ≡ s.start.y = c.y.ensures.exact ∙ (λ i. (c.a-3.ensures.exact i).y) in
    let x : c.part_way-x.result ≡ rounded s.start.x (s.stop.x -ℤ s.start.x) c.args.p (unsigned_abs c.args.w) = x₀ ∙ (λ i. rounded (ex i) (dx_is d i) c.args.p (unsigned_abs c.args.w)) in
    let y : c.part_way-y.result ≡ rounded s.start.y (s.stop.y -ℤ s.start.y) c.args.p (unsigned_abs c.args.w) = y₀ ∙ (λ i. rounded (ey i) (dy_is d i) c.args.p (unsigned_abs c.args.w)) in
    let made : IsOnGrid (record { x = c.part_way-x.result; y = c.part_way-y.result }) → c.new.result ≡ Some (record { x = c.part_way-x.result; y = c.part_way-y.result }) = simp to_z-of_z at c.new.ensures.within in
    let e : record { x = c.part_way-x.result; y = c.part_way-y.result } ≡ point d = λ i. record { x = x i; y = y i } in
    record { exact = made (subst IsOnGrid (sym e) (on_grid d)) ∙ ap Some e ∙ sym (pixel_is d) }
