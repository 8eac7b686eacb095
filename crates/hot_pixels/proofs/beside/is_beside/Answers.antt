use Rattle.std.proofs.Common.{rules, ◌≡◌, ◌∙◌, sym, FitsSigned, to_z-of_z, w64}
use Rattle.hot_pixels.specs.Near.{is_outside}
use Rattle.grid_base.specs.Boxes.{lesser, greater}
use Rattle.hot_pixels.proofs.NearLemmas.{cross_beside_across, cross_beside_upward}
use Rattle.hot_pixels.proofs.beside.is_beside.Goals as goal

pub returns-then-is_outside : goal.returns-then-is_outside
returns-then-is_outside c = record {
  yes = λ _.
      let f₁ : FitsSigned w64 c.x.result = search rules in
      let f₂ : FitsSigned w64 c.x-2.result = search rules in
      let f₃ : FitsSigned w64 c.x-3.result = search rules in
      let f₄ : FitsSigned w64 c.x-4.result = search rules in
      let f₅ : FitsSigned w64 c.x-5.result = search rules in
      let f₆ : FitsSigned w64 c.x-6.result = search rules in
      let f₇ : FitsSigned w64 c.lesser.result = search rules in
      let f₈ : FitsSigned w64 c.greater.result = search rules in
      let e : c.is_outside.result ≡ is_outside c.x.result c.x-2.result c.lesser.result c.greater.result = simp to_z-of_z at c.is_outside.ensures.exact in
      let l : c.lesser.result ≡ lesser c.x-3.result c.x-4.result = simp to_z-of_z at c.lesser.ensures.exact in
      let g : c.greater.result ≡ greater c.x-5.result c.x-6.result = simp to_z-of_z at c.greater.ensures.exact in
      let ax = c.x.ensures.exact ∙ (λ i. (c.a-a.ensures.exact i).x) in
      let bx = c.x-2.ensures.exact ∙ (λ i. (c.b-b.ensures.exact i).x) in
      let lx = l ∙ (λ i. lesser ((c.x-3.ensures.exact ∙ (λ j. (c.a-c.ensures.exact j).x)) i) ((c.x-4.ensures.exact ∙ (λ j. (c.b-d.ensures.exact j).x)) i)) in
      let gx = g ∙ (λ i. greater ((c.x-5.ensures.exact ∙ (λ j. (c.a-c.ensures.exact j).x)) i) ((c.x-6.ensures.exact ∙ (λ j. (c.b-d.ensures.exact j).x)) i)) in
      cross_beside_across c.args.s.now c.args.t.now (sym (e ∙ (λ i. is_outside (ax i) (bx i) (lx i) (gx i))) ∙ c.if-is_outside.true);
}

pub returns : goal.returns
returns c = record {
  yes = λ t.
      let f₁ : FitsSigned w64 c.y.result = search rules in
      let f₂ : FitsSigned w64 c.y-2.result = search rules in
      let f₃ : FitsSigned w64 c.y-3.result = search rules in
      let f₄ : FitsSigned w64 c.y-4.result = search rules in
      let f₅ : FitsSigned w64 c.y-5.result = search rules in
      let f₆ : FitsSigned w64 c.y-6.result = search rules in
      let f₇ : FitsSigned w64 c.lesser-2.result = search rules in
      let f₈ : FitsSigned w64 c.greater-2.result = search rules in
      let e : c.is_outside-2.result ≡ is_outside c.y.result c.y-2.result c.lesser-2.result c.greater-2.result = simp to_z-of_z at c.is_outside-2.ensures.exact in
      let l : c.lesser-2.result ≡ lesser c.y-3.result c.y-4.result = simp to_z-of_z at c.lesser-2.ensures.exact in
      let g : c.greater-2.result ≡ greater c.y-5.result c.y-6.result = simp to_z-of_z at c.greater-2.ensures.exact in
      let ay = c.y.ensures.exact ∙ (λ i. (c.a-a.ensures.exact i).y) in
      let by = c.y-2.ensures.exact ∙ (λ i. (c.b-b.ensures.exact i).y) in
      let ly = l ∙ (λ i. lesser ((c.y-3.ensures.exact ∙ (λ j. (c.a-c.ensures.exact j).y)) i) ((c.y-4.ensures.exact ∙ (λ j. (c.b-d.ensures.exact j).y)) i)) in
      let gy = g ∙ (λ i. greater ((c.y-5.ensures.exact ∙ (λ j. (c.a-c.ensures.exact j).y)) i) ((c.y-6.ensures.exact ∙ (λ j. (c.b-d.ensures.exact j).y)) i)) in
      cross_beside_upward c.args.s.now c.args.t.now (sym (e ∙ (λ i. is_outside (ay i) (by i) (ly i) (gy i))) ∙ t);
}
