use Rattle.std.proofs.Common.{◌∙◌, rules, w64, FitsSigned, to_z-of_z}
use Rattle.bucket_grid.proofs.MadeRects.{across_made, upward_made}
use Rattle.bucket_grid.proofs.slab_lists.strip.Goals as goal

pub returns-in_ok-new-in-Across-2 : goal.returns-in_ok-new-in-Across-2
returns-in_ok-new-in-Across-2 c =
    let f₁ : FitsSigned w64 c.args.low = search rules in
    let f₂ : FitsSigned w64 c.args.high = search rules in
    let f₃ : FitsSigned w64 c.y.result = search rules in
    let f₄ : FitsSigned w64 c.y-in-Across.result = search rules in
    record {
      exact = across_made c.args.rect c.args.axis c.args.low c.args.high c.y.result c.y-in-Across.result c.in_ok-new-in-Across.field-0 c.in_ok-new-in-Across-2.field-0 c.new-in-Across-2.result
          c.in-Across.is
          (c.y.ensures.exact ∙ (λ i. (c.low.ensures.exact i).y)) (c.y-in-Across.ensures.exact ∙ (λ i. (c.high.ensures.exact i).y))
          (simp to_z-of_z at c.in_ok-new-in-Across.ensures.exact) (simp to_z-of_z at c.in_ok-new-in-Across-2.ensures.exact) c.new-in-Across-2.ensures.exact;
    }

pub returns-in_ok-new-in-Upward-2 : goal.returns-in_ok-new-in-Upward-2
returns-in_ok-new-in-Upward-2 c =
    let f₁ : FitsSigned w64 c.args.low = search rules in
    let f₂ : FitsSigned w64 c.args.high = search rules in
    let f₃ : FitsSigned w64 c.x.result = search rules in
    let f₄ : FitsSigned w64 c.x-in-Upward.result = search rules in
    record {
      exact = upward_made c.args.rect c.args.axis c.args.low c.args.high c.x.result c.x-in-Upward.result c.in_ok-new-in-Upward.field-0 c.in_ok-new-in-Upward-2.field-0 c.new-in-Upward-3.result
          c.in-Upward.is
          (c.x.ensures.exact ∙ (λ i. (c.low-in-Upward.ensures.exact i).x)) (c.x-in-Upward.ensures.exact ∙ (λ i. (c.high-in-Upward.ensures.exact i).x))
          (simp to_z-of_z at c.in_ok-new-in-Upward.ensures.exact) (simp to_z-of_z at c.in_ok-new-in-Upward-2.ensures.exact) c.new-in-Upward-3.ensures.exact;
    }
