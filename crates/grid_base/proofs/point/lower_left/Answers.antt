use Rattle.std.proofs.Common.{◌≡◌, ◌∙◌, sym, subst, rules, int_le, FitsSigned, to_z-of_z, w64}
use Rattle.grid_base.specs.Grid.{IsOnGrid}
use Rattle.grid_base.specs.Boxes.{lesser}
use Rattle.grid_base.proofs.BoxLemmas.{mixed_on_grid}
use Rattle.grid_base.proofs.point.lower_left.Goals as goal

pub invariant_of-result : goal.invariant_of-result
invariant_of-result c =
    let p = c.args.p in
    let q = c.args.q in
    let f₁ : FitsSigned w64 c.x.result = search rules in
    let f₂ : FitsSigned w64 c.x-2.result = search rules in
    let g₁ : FitsSigned w64 c.y.result = search rules in
    let g₂ : FitsSigned w64 c.y-2.result = search rules in
    let h₁ : FitsSigned w64 c.lesser-x.result = search rules in
    let h₂ : FitsSigned w64 c.lesser-y.result = search rules in
    let x₀ : c.lesser-x.result ≡ lesser c.x.result c.x-2.result = simp to_z-of_z at c.lesser-x.ensures.exact in
    let y₀ : c.lesser-y.result ≡ lesser c.y.result c.y-2.result = simp to_z-of_z at c.lesser-y.ensures.exact in
    let x : c.lesser-x.result ≡ lesser p.x q.x = x₀ ∙ (λ i. lesser (c.x.ensures.exact i) (c.x-2.ensures.exact i)) in
    let y : c.lesser-y.result ≡ lesser p.y q.y = y₀ ∙ (λ i. lesser (c.y.ensures.exact i) (c.y-2.ensures.exact i)) in
    simp to_z-of_z (subst IsOnGrid (λ i. record { x = sym x i; y = sym y i }) (mixed_on_grid (int_le p.x q.x) (int_le p.y q.y) p q c.x.ensures.bounded c.x-2.ensures.bounded))
