use Rattle.std.proofs.Common.{rules, ◌≡◌, ◌∙◌, sym, true, FitsSigned, to_z-of_z, w64}
use Rattle.std.specs.Prelude.{int_le, int_lt}
use Rattle.link_search.proofs.UnderLemmas.{over_right}
use Rattle.link_search.proofs.under.is_over.Goals as goal

pub returns-then-x : goal.returns-then-x
returns-then-x c =
    let l = c.args.l in
    let p = c.args.p in
    let f₁ : FitsSigned w64 c.x.result = search rules in
    let f₂ : FitsSigned w64 c.x-2.result = search rules in
    let f₃ : FitsSigned w64 c.x-then-x.result = search rules in
    let f₄ : FitsSigned w64 c.x-then-x-2.result = search rules in
    let h : int_le c.x.result c.x-2.result ≡ true = simp to_z-of_z at c.if-x.true in
    let low : c.x.result ≡ l.start.x = c.x.ensures.exact ∙ (λ i. (c.low.ensures.lesser i).x) in
    let high : c.x-then-x-2.result ≡ l.stop.x = c.x-then-x-2.ensures.exact ∙ (λ i. (c.high.ensures.greater i).x) in
    let left : int_le l.start.x p.x ≡ true = sym (λ i. int_le (low i) (c.x-2.ensures.exact i)) ∙ h in
    record { exact = simp to_z-of_z ((λ i. int_lt (c.x-then-x.ensures.exact i) (high i)) ∙ over_right p l left) }
