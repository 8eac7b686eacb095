use Rattle.std.proofs.Common.{◌≡◌, ◌∙◌, sym, subst, rules, int_le, FitsSigned, to_z-of_z, w64}
use Rattle.grid_base.specs.Grid.{IsOnGrid}
use Rattle.grid_base.specs.Boxes.{greater}
use Rattle.grid_base.proofs.BoxLemmas.{mixed_on_grid}
use Rattle.grid_base.proofs.point.upper_right.Goals as goal

pub invariant_of-result : goal.invariant_of-result
invariant_of-result c =
    let p = c.args.p in
    let q = c.args.q in
    let f₁ : FitsSigned w64 c.x.result = search rules in
    let f₂ : FitsSigned w64 c.x-2.result = search rules in
    let g₁ : FitsSigned w64 c.y.result = search rules in
    let g₂ : FitsSigned w64 c.y-2.result = search rules in
    let h₁ : FitsSigned w64 c.greater-x.result = search rules in
    let h₂ : FitsSigned w64 c.greater-y.result = search rules in
    let x₀ : c.greater-x.result ≡ greater c.x.result c.x-2.result = simp to_z-of_z at c.greater-x.ensures.exact in
    let y₀ : c.greater-y.result ≡ greater c.y.result c.y-2.result = simp to_z-of_z at c.greater-y.ensures.exact in
    let x : c.greater-x.result ≡ greater p.x q.x = x₀ ∙ (λ i. greater (c.x.ensures.exact i) (c.x-2.ensures.exact i)) in
    let y : c.greater-y.result ≡ greater p.y q.y = y₀ ∙ (λ i. greater (c.y.ensures.exact i) (c.y-2.ensures.exact i)) in
    simp to_z-of_z (subst IsOnGrid (λ i. record { x = sym x i; y = sym y i }) (mixed_on_grid (int_le p.x q.x) (int_le p.y q.y) q p c.x-2.ensures.bounded c.x.ensures.bounded))
