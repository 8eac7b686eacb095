use Rattle.std.proofs.Common.{◌≡◌, sym, ap, ◌∙◌, rules, Bool, true, false, ◌&&◌, int_le, ℤ, w64, FitsSigned, to_z-of_z}
use Rattle.bucket_grid.proofs.sharing.share.Goals as goal

both_true : (p q x y : Bool) → p ≡ true → p ≡ x → q ≡ y → q ≡ (x && y)
both_true p q x y e f g = g ∙ ap (λ (t : Bool). t && y) (sym e ∙ f)

one_false : (p x y : Bool) → p ≡ false → p ≡ x → p ≡ (x && y)
one_false p x y e f = e ∙ ap (λ (t : Bool). t && y) (sym e ∙ f)

same_tests : (a b c d a' b' c' d' : ℤ) → a ≡ a' → b ≡ b' → c ≡ c' → d ≡ d' → (int_le a b && int_le c d) ≡ (int_le a' b' && int_le c' d')
same_tests a b c d a' b' c' d' e f g h = λ i. int_le (e i) (f i) && int_le (g i) (h i)

pub returns-then-overlap : goal.returns-then-overlap
returns-then-overlap c =
    let a = c.args.a in
    let b = c.args.b in
    let f₁ : FitsSigned w64 c.x.result = search rules in
    let f₂ : FitsSigned w64 c.x-2.result = search rules in
    let f₃ : FitsSigned w64 c.x-3.result = search rules in
    let f₄ : FitsSigned w64 c.x-4.result = search rules in
    let g₁ : FitsSigned w64 c.y.result = search rules in
    let g₂ : FitsSigned w64 c.y-then-overlap.result = search rules in
    let g₃ : FitsSigned w64 c.y-then-overlap-2.result = search rules in
    let g₄ : FitsSigned w64 c.y-then-overlap-3.result = search rules in
    let e : c.overlap.result ≡ (int_le c.x.result c.x-4.result && int_le c.x-3.result c.x-2.result) = simp to_z-of_z at c.overlap.ensures.exact in
    let f : c.overlap-then-overlap.result ≡ (int_le c.y.result c.y-then-overlap-3.result && int_le c.y-then-overlap-2.result c.y-then-overlap.result) = simp to_z-of_z at c.overlap-then-overlap.ensures.exact in
    let x = same_tests c.x.result c.x-4.result c.x-3.result c.x-2.result a.low.x b.high.x b.low.x a.high.x
    (c.x.ensures.exact ∙ (λ i. (c.low.ensures.exact i).x)) (c.x-4.ensures.exact ∙ (λ i. (c.high-2.ensures.exact i).x)) (c.x-3.ensures.exact ∙ (λ i. (c.low-2.ensures.exact i).x)) (c.x-2.ensures.exact ∙ (λ i. (c.high.ensures.exact i).x)) in
    let y = same_tests c.y.result c.y-then-overlap-3.result c.y-then-overlap-2.result c.y-then-overlap.result a.low.y b.high.y b.low.y a.high.y
    (c.y.ensures.exact ∙ (λ i. (c.low-then-overlap.ensures.exact i).y)) (c.y-then-overlap-3.ensures.exact ∙ (λ i. (c.high-then-overlap-2.ensures.exact i).y)) (c.y-then-overlap-2.ensures.exact ∙ (λ i. (c.low-then-overlap-2.ensures.exact i).y)) (c.y-then-overlap.ensures.exact ∙ (λ i. (c.high-then-overlap.ensures.exact i).y)) in
    record { exact = both_true c.overlap.result c.overlap-then-overlap.result (int_le a.low.x b.high.x && int_le b.low.x a.high.x) (int_le a.low.y b.high.y && int_le b.low.y a.high.y) c.if-overlap.true (e ∙ x) (f ∙ y) }

pub returns-else-overlap : goal.returns-else-overlap
returns-else-overlap c =
    let a = c.args.a in
    let b = c.args.b in
    let f₁ : FitsSigned w64 c.x.result = search rules in
    let f₂ : FitsSigned w64 c.x-2.result = search rules in
    let f₃ : FitsSigned w64 c.x-3.result = search rules in
    let f₄ : FitsSigned w64 c.x-4.result = search rules in
    let e : c.overlap.result ≡ (int_le c.x.result c.x-4.result && int_le c.x-3.result c.x-2.result) = simp to_z-of_z at c.overlap.ensures.exact in
    let x = same_tests c.x.result c.x-4.result c.x-3.result c.x-2.result a.low.x b.high.x b.low.x a.high.x
    (c.x.ensures.exact ∙ (λ i. (c.low.ensures.exact i).x)) (c.x-4.ensures.exact ∙ (λ i. (c.high-2.ensures.exact i).x)) (c.x-3.ensures.exact ∙ (λ i. (c.low-2.ensures.exact i).x)) (c.x-2.ensures.exact ∙ (λ i. (c.high.ensures.exact i).x)) in
    record { exact = one_false c.overlap.result (int_le a.low.x b.high.x && int_le b.low.x a.high.x) (int_le a.low.y b.high.y && int_le b.low.y a.high.y) c.if-overlap.false (e ∙ x) }
