use Rattle.std.proofs.Common.{◌≡◌, ◌∙◌, rules, [], ◌∷◌, FitsSigned, to_z-of_z, w64}
use Rattle.lists.specs.Lists.{each_two}
use Rattle.plane_model.specs.Pixel.{agree, low_side, high_side}
use Rattle.hot_pixels.proofs.half_open.meets.Goals as goal

pub returns : goal.returns
returns c =
    let s = c.args.s.now in
    let g = c.args.pixel in
    let f₁ : FitsSigned w64 c.x.result = search rules in
    let f₂ : FitsSigned w64 c.x-2.result = search rules in
    let f₃ : FitsSigned w64 c.x-3.result = search rules in
    let f₄ : FitsSigned w64 c.x-4.result = search rules in
    let f₅ : FitsSigned w64 c.x-5.result = search rules in
    let f₆ : FitsSigned w64 c.x-6.result = search rules in
    let g₁ : FitsSigned w64 c.y.result = search rules in
    let g₂ : FitsSigned w64 c.y-2.result = search rules in
    let g₃ : FitsSigned w64 c.y-3.result = search rules in
    let g₄ : FitsSigned w64 c.y-4.result = search rules in
    let g₅ : FitsSigned w64 c.y-5.result = search rules in
    let g₆ : FitsSigned w64 c.y-6.result = search rules in
    let l₀ : c.low_side_of-left.result ≡ low_side c.x.result c.x-2.result c.x-3.result = simp to_z-of_z at c.low_side_of-left.ensures.exact in
    let r₀ : c.high_side_of-right.result ≡ high_side c.x-4.result c.x-5.result c.x-6.result = simp to_z-of_z at c.high_side_of-right.ensures.exact in
    let o₀ : c.low_side_of-lower.result ≡ low_side c.y.result c.y-2.result c.y-3.result = simp to_z-of_z at c.low_side_of-lower.ensures.exact in
    let u₀ : c.high_side_of-upper.result ≡ high_side c.y-4.result c.y-5.result c.y-6.result = simp to_z-of_z at c.high_side_of-upper.ensures.exact in
    let ax : c.a-a.result.x ≡ s.start.x = λ i. (c.a-a.ensures.exact i).x in
    let ay : c.a-a.result.y ≡ s.start.y = λ i. (c.a-a.ensures.exact i).y in
    let bx : c.b-b.result.x ≡ s.stop.x = λ i. (c.b-b.ensures.exact i).x in
    let by : c.b-b.result.y ≡ s.stop.y = λ i. (c.b-b.ensures.exact i).y in
    let l : c.low_side_of-left.result ≡ low_side s.start.x s.stop.x g.x = l₀ ∙ (λ i. low_side ((c.x.ensures.exact ∙ ax) i) ((c.x-2.ensures.exact ∙ bx) i) (c.x-3.ensures.exact i)) in
    let r : c.high_side_of-right.result ≡ high_side s.start.x s.stop.x g.x = r₀ ∙ (λ i. high_side ((c.x-4.ensures.exact ∙ ax) i) ((c.x-5.ensures.exact ∙ bx) i) (c.x-6.ensures.exact i)) in
    let o : c.low_side_of-lower.result ≡ low_side s.start.y s.stop.y g.y = o₀ ∙ (λ i. low_side ((c.y.ensures.exact ∙ ay) i) ((c.y-2.ensures.exact ∙ by) i) (c.y-3.ensures.exact i)) in
    let u : c.high_side_of-upper.result ≡ high_side s.start.y s.stop.y g.y = u₀ ∙ (λ i. high_side ((c.y-4.ensures.exact ∙ ay) i) ((c.y-5.ensures.exact ∙ by) i) (c.y-6.ensures.exact i)) in
    record { exact = c.are_agreed.ensures.exact ∙ (λ i. each_two agree (l i ∷ r i ∷ o i ∷ u i ∷ [])) }
