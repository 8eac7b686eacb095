use Rattle.std.proofs.Common.{◌≡◌, ◌∙◌, sym, ◌-ℤ◌, to_z-of_z}
use Rattle.grid_base.proofs.Bounds.{step_fits}
use Rattle.link_search.proofs.UnderLemmas.{step_at}
use Rattle.link_search.proofs.under.width_of.Goals as goal

pub returns-clause-exact : goal.returns-clause-exact
returns-clause-exact c =
    let l = c.args.l in
    let s = c.step-across in
    let f₁ = step_fits s.result.0 s.ensures.across_small in
    let e : s.result.0 ≡ l.stop.x -ℤ l.start.x = s.ensures.across ∙ (λ i. (c.high.ensures.greater i).x -ℤ (c.low.ensures.lesser i).x) in
    simp to_z-of_z (e ∙ sym (step_at l.start l.stop))
