use Rattle.std.proofs.Common.{◌≡◌, ◌∙◌, sym, ◌-ℤ◌, ◌*ℤ◌, to_z-of_z}
use Rattle.grid_base.proofs.Bounds.{cross_fits, step_fits}
use Rattle.link_search.proofs.UnderLemmas.{turn_at}
use Rattle.link_search.proofs.under.side_of.Goals as goal

pub returns-clause-exact : goal.returns-clause-exact
returns-clause-exact c =
    let l = c.args.l in
    let p = c.args.p in
    let s = c.step-ax in
    let t = c.step-bx in
    let f₁ = step_fits s.result.0 s.ensures.across_small in
    let f₂ = step_fits s.result.1 s.ensures.upward_small in
    let f₃ = step_fits t.result.0 t.ensures.across_small in
    let f₄ = step_fits t.result.1 t.ensures.upward_small in
    let f₅ = cross_fits c.determinant.result c.determinant.ensures.small in
    let v : c.determinant.result ≡ s.result.0 *ℤ t.result.1 -ℤ s.result.1 *ℤ t.result.0 = simp to_z-of_z at c.determinant.ensures.value in
    let e₁ : s.result.0 ≡ l.stop.x -ℤ l.start.x = s.ensures.across ∙ (λ i. (c.high.ensures.greater i).x -ℤ (c.low.ensures.lesser i).x) in
    let e₂ : s.result.1 ≡ l.stop.y -ℤ l.start.y = s.ensures.upward ∙ (λ i. (c.high.ensures.greater i).y -ℤ (c.low.ensures.lesser i).y) in
    let e₃ : t.result.0 ≡ p.x -ℤ l.start.x = t.ensures.across ∙ (λ i. p.x -ℤ (c.low-2.ensures.lesser i).x) in
    let e₄ : t.result.1 ≡ p.y -ℤ l.start.y = t.ensures.upward ∙ (λ i. p.y -ℤ (c.low-2.ensures.lesser i).y) in
    simp to_z-of_z (v ∙ (λ i. e₁ i *ℤ e₄ i -ℤ e₂ i *ℤ e₃ i) ∙ sym (turn_at l.start l.stop p))
