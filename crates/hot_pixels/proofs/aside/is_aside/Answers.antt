use Rattle.std.proofs.Common.{◌≡◌, ◌∙◌, rules, arith, ℤ, pos, ◌-ℤ◌, ◌*ℤ◌, ◌≤ℤ◌, ◌<ℤ◌, FitsSigned, to_z-of_z}
use Rattle.std.specs.Int.{w128}
use Rattle.std.proofs.lemmas.Int.{ints}
use Rattle.plane_algebra.proofs.Order.{order}
use Rattle.grid_base.proofs.Bounds.{step_fits}
use Rattle.hot_pixels.proofs.AsideLemmas.{left_aside, reach, right_aside}
use Rattle.hot_pixels.proofs.aside.is_aside.Goals as goal
use Rattle.hot_pixels.proofs.aside.is_aside.Goals.{After-reach_of-reach}

-- what is known of the steps and of the reach
record Known (c : After-reach_of-reach) : Type 0 where
  across : c.step-dx.result.0 ≡ c.args.s.now.stop.x -ℤ c.args.s.now.start.x
  upward : c.step-dx.result.1 ≡ c.args.s.now.stop.y -ℤ c.args.s.now.start.y
  west : c.step-west.result.0 ≡ c.args.rect.low.x -ℤ c.args.s.now.start.x
  south : c.step-west.result.1 ≡ c.args.rect.low.y -ℤ c.args.s.now.start.y
  east : c.step-east.result.0 ≡ c.args.rect.high.x -ℤ c.args.s.now.start.x
  north : c.step-east.result.1 ≡ c.args.rect.high.y -ℤ c.args.s.now.start.y
  reaches : c.reach_of-reach.result ≡ reach c.step-dx.result.0 c.step-dx.result.1

known : (c : After-reach_of-reach) → Known c
known c =
    let f₁ = step_fits c.step-dx.result.0 c.step-dx.ensures.across_small in
    let f₂ = step_fits c.step-dx.result.1 c.step-dx.ensures.upward_small in
    record {
      across = c.step-dx.ensures.across ∙ (λ i. (c.b.ensures.exact i).x -ℤ (c.a.ensures.exact i).x);
      upward = c.step-dx.ensures.upward ∙ (λ i. (c.b.ensures.exact i).y -ℤ (c.a.ensures.exact i).y);
      west = c.step-west.ensures.across ∙ (λ i. (c.low.ensures.exact i).x -ℤ (c.a-2.ensures.exact i).x);
      south = c.step-west.ensures.upward ∙ (λ i. (c.low.ensures.exact i).y -ℤ (c.a-2.ensures.exact i).y);
      east = c.step-east.ensures.across ∙ (λ i. (c.high.ensures.exact i).x -ℤ (c.a-3.ensures.exact i).x);
      north = c.step-east.ensures.upward ∙ (λ i. (c.high.ensures.exact i).y -ℤ (c.a-3.ensures.exact i).y);
      reaches = simp to_z-of_z at c.reach_of-reach.ensures.exact;
    }

pub returns-then-reach-doubled : goal.returns-then-reach-doubled
returns-then-reach-doubled c = record {
  passed = λ g t h.
      let k = known (goal.at.returns-then-reach-doubled c).After-reach_of-reach in
      let f₁ = step_fits c.step-dx.result.0 c.step-dx.ensures.across_small in
      let f₂ = step_fits c.step-dx.result.1 c.step-dx.ensures.upward_small in
      let f₃ = step_fits c.step-west.result.0 c.step-west.ensures.across_small in
      let f₄ = step_fits c.step-west.result.1 c.step-west.ensures.upward_small in
      let f₅ = step_fits c.step-east.result.0 c.step-east.ensures.across_small in
      let f₆ = step_fits c.step-east.result.1 c.step-east.ensures.upward_small in
      let f₇ = step_fits c.greatest_end.result c.greatest_end.ensures.small in
      let f₈ = step_fits c.least_end.result c.least_end.ensures.small in
      let g₁ : FitsSigned w128 c.reach_of-reach.result = search rules in
      let g₂ : FitsSigned w128 c.determinant-left.result = search rules in
      let g₃ : FitsSigned w128 c.doubled.result = search rules in
      let greatest : (n : ℤ) → c.step-west.result.0 ≤ℤ n → n ≤ℤ c.step-east.result.0 → (c.step-dx.result.1 *ℤ n) ≤ℤ (c.step-dx.result.1 *ℤ c.greatest_end.result) = simp to_z-of_z at c.greatest_end.ensures.greatest in
      let least : (n : ℤ) → c.step-west.result.1 ≤ℤ n → n ≤ℤ c.step-east.result.1 → (c.step-dx.result.0 *ℤ c.least_end.result) ≤ℤ (c.step-dx.result.0 *ℤ n) = simp to_z-of_z at c.least_end.ensures.least in
      let cross : c.determinant-left.result ≡ c.step-dx.result.0 *ℤ c.least_end.result -ℤ c.step-dx.result.1 *ℤ c.greatest_end.result = simp to_z-of_z at c.determinant-left.ensures.value in
      let twice : c.doubled.result ≡ pos 2 *ℤ c.determinant-left.result = simp to_z-of_z at c.doubled.ensures.exact in
      let more : c.reach_of-reach.result <ℤ c.doubled.result = omega (arith, ints) in
      let w = k.west in let e = k.east in let s = k.south in let n = k.north in
      let l = h.left in let r = h.right in let d = h.lower in let u = h.upper in
      left_aside c.args.s.now g c.step-dx.result.0 c.step-dx.result.1 k.across k.upward c.greatest_end.result c.least_end.result c.reach_of-reach.result c.determinant-left.result c.doubled.result
      (greatest (g.x -ℤ c.args.s.now.start.x) (omega order) (omega order))
      (least (g.y -ℤ c.args.s.now.start.y) (omega order) (omega order))
      k.reaches cross twice more;
}

pub returns : goal.returns
returns c = record {
  passed = λ g t h.
      let k = known (goal.at.returns c).After-reach_of-reach in
      let f₁ = step_fits c.step-dx.result.0 c.step-dx.ensures.across_small in
      let f₂ = step_fits c.step-dx.result.1 c.step-dx.ensures.upward_small in
      let f₃ = step_fits c.step-west.result.0 c.step-west.ensures.across_small in
      let f₄ = step_fits c.step-west.result.1 c.step-west.ensures.upward_small in
      let f₅ = step_fits c.step-east.result.0 c.step-east.ensures.across_small in
      let f₆ = step_fits c.step-east.result.1 c.step-east.ensures.upward_small in
      let f₇ = step_fits c.greatest_end-2.result c.greatest_end-2.ensures.small in
      let f₈ = step_fits c.least_end-2.result c.least_end-2.ensures.small in
      let g₁ : FitsSigned w128 c.reach_of-reach.result = search rules in
      let g₂ : FitsSigned w128 c.determinant-right.result = search rules in
      let g₃ : FitsSigned w128 c.doubled-2.result = search rules in
      let greatest : (n : ℤ) → c.step-west.result.1 ≤ℤ n → n ≤ℤ c.step-east.result.1 → (c.step-dx.result.0 *ℤ n) ≤ℤ (c.step-dx.result.0 *ℤ c.greatest_end-2.result) = simp to_z-of_z at c.greatest_end-2.ensures.greatest in
      let least : (n : ℤ) → c.step-west.result.0 ≤ℤ n → n ≤ℤ c.step-east.result.0 → (c.step-dx.result.1 *ℤ c.least_end-2.result) ≤ℤ (c.step-dx.result.1 *ℤ n) = simp to_z-of_z at c.least_end-2.ensures.least in
      let cross : c.determinant-right.result ≡ c.step-dx.result.1 *ℤ c.least_end-2.result -ℤ c.step-dx.result.0 *ℤ c.greatest_end-2.result = simp to_z-of_z at c.determinant-right.ensures.value in
      let twice : c.doubled-2.result ≡ pos 2 *ℤ c.determinant-right.result = simp to_z-of_z at c.doubled-2.ensures.exact in
      let more : c.reach_of-reach.result <ℤ c.doubled-2.result = omega (arith, ints) in
      let w = k.west in let e = k.east in let s = k.south in let n = k.north in
      let l = h.left in let r = h.right in let d = h.lower in let u = h.upper in
      right_aside c.args.s.now g c.step-dx.result.0 c.step-dx.result.1 k.across k.upward c.least_end-2.result c.greatest_end-2.result c.reach_of-reach.result c.determinant-right.result c.doubled-2.result
      (least (g.x -ℤ c.args.s.now.start.x) (omega order) (omega order))
      (greatest (g.y -ℤ c.args.s.now.start.y) (omega order) (omega order))
      k.reaches cross twice more;
}
