use Rattle.std.proofs.Common.{rules, ◌≡◌, ◌∙◌, sym, FitsSigned, to_z-of_z, w64}
use Rattle.hot_pixels.specs.Near.{is_outside}
use Rattle.hot_pixels.proofs.NearLemmas.{beside_across, beside_upward}
use Rattle.hot_pixels.proofs.near.is_apart.Goals as goal

pub returns-then-is_outside : goal.returns-then-is_outside
returns-then-is_outside c = record {
  yes = λ g t h.
      let f₁ : FitsSigned w64 c.x.result = search rules in
      let f₂ : FitsSigned w64 c.x-2.result = search rules in
      let f₃ : FitsSigned w64 c.x-3.result = search rules in
      let f₄ : FitsSigned w64 c.x-4.result = search rules in
      let e : c.is_outside.result ≡ is_outside c.x.result c.x-2.result c.x-3.result c.x-4.result = simp to_z-of_z at c.is_outside.ensures.exact in
      let ax = c.x.ensures.exact ∙ (λ i. (c.a-a.ensures.exact i).x) in
      let bx = c.x-2.ensures.exact ∙ (λ i. (c.b-b.ensures.exact i).x) in
      let lx = c.x-3.ensures.exact ∙ (λ i. (c.low-low.ensures.exact i).x) in
      let hx = c.x-4.ensures.exact ∙ (λ i. (c.high-high.ensures.exact i).x) in
      beside_across c.args.s.now c.args.rect g (sym (e ∙ (λ i. is_outside (ax i) (bx i) (lx i) (hx i))) ∙ c.if-is_outside.true) h;
}

pub returns : goal.returns
returns c = record {
  yes = λ g t h.
      let f₁ : FitsSigned w64 c.y.result = search rules in
      let f₂ : FitsSigned w64 c.y-2.result = search rules in
      let f₃ : FitsSigned w64 c.y-3.result = search rules in
      let f₄ : FitsSigned w64 c.y-4.result = search rules in
      let e : c.is_outside-2.result ≡ is_outside c.y.result c.y-2.result c.y-3.result c.y-4.result = simp to_z-of_z at c.is_outside-2.ensures.exact in
      let ay = c.y.ensures.exact ∙ (λ i. (c.a-a.ensures.exact i).y) in
      let by = c.y-2.ensures.exact ∙ (λ i. (c.b-b.ensures.exact i).y) in
      let ly = c.y-3.ensures.exact ∙ (λ i. (c.low-low.ensures.exact i).y) in
      let hy = c.y-4.ensures.exact ∙ (λ i. (c.high-high.ensures.exact i).y) in
      beside_upward c.args.s.now c.args.rect g (sym (e ∙ (λ i. is_outside (ay i) (by i) (ly i) (hy i))) ∙ t) h;
}
