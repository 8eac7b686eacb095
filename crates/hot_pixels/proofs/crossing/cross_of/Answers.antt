use Rattle.std.proofs.Common.{◌≡◌, ◌∙◌, rules, subst, ◌-ℤ◌, ◌*ℤ◌, FitsSigned, to_z-of_z}
use Rattle.std.specs.Int.{w128}
use Rattle.plane_model.specs.Points.{GridPoint}
use Rattle.grid_base.specs.Grid.{IsOnGrid}
use Rattle.grid_base.proofs.Bounds.{step_fits}
use Rattle.hot_pixels.proofs.crossing.cross_of.Goals as goal

pub returns-clause-value : goal.returns-clause-value
returns-clause-value c =
    let s = c.args.s in
    let t = c.args.t in
    let f₁ = step_fits c.step-ax.result.0 c.step-ax.ensures.across_small in
    let f₂ = step_fits c.step-ax.result.1 c.step-ax.ensures.upward_small in
    let f₃ = step_fits c.step-bx.result.0 c.step-bx.ensures.across_small in
    let f₄ = step_fits c.step-bx.result.1 c.step-bx.ensures.upward_small in
    let f₅ : FitsSigned w128 c.determinant.result = search rules in
    let ax : c.step-ax.result.0 ≡ s.stop.x -ℤ s.start.x = c.step-ax.ensures.across ∙ (λ i. (c.b.ensures.exact i).x -ℤ (c.a.ensures.exact i).x) in
    let ay : c.step-ax.result.1 ≡ s.stop.y -ℤ s.start.y = c.step-ax.ensures.upward ∙ (λ i. (c.b.ensures.exact i).y -ℤ (c.a.ensures.exact i).y) in
    let bx : c.step-bx.result.0 ≡ t.stop.x -ℤ t.start.x = c.step-bx.ensures.across ∙ (λ i. (c.b-2.ensures.exact i).x -ℤ (c.a-2.ensures.exact i).x) in
    let by : c.step-bx.result.1 ≡ t.stop.y -ℤ t.start.y = c.step-bx.ensures.upward ∙ (λ i. (c.b-2.ensures.exact i).y -ℤ (c.a-2.ensures.exact i).y) in
    let w : c.determinant.result ≡ c.step-ax.result.0 *ℤ c.step-bx.result.1 -ℤ c.step-ax.result.1 *ℤ c.step-bx.result.0 = simp to_z-of_z at c.determinant.ensures.value in
    simp to_z-of_z (w ∙ (λ i. ax i *ℤ by i -ℤ ay i *ℤ bx i))

pub returns-clause-on_grid : goal.returns-clause-on_grid
returns-clause-on_grid c = record {
  start = subst (λ (p : GridPoint). IsOnGrid p) c.a.ensures.exact c.step-ax.ensures.from_on_grid;
  stop = subst (λ (p : GridPoint). IsOnGrid p) c.b.ensures.exact c.step-ax.ensures.to_on_grid;
}
