use Rattle.std.proofs.Common.{◌∙◌, ap, ℕ, List, map, Vec, Global}
use Rattle.region_ops.specs.Filled.{given}
use Rattle.region_ops.proofs.FillLemmas.{gifts_more}
use Rattle.region_ops.proofs.filled_sets.gifts_of.Goals as goal

pub loop-gap-preserved : goal.loop-gap-preserved
loop-gap-preserved c =
    let items : List (Vec ℕ Global) → List (List ℕ) = map (λ (v : Vec ℕ Global). v.items) in
    let old : List (List ℕ) = items c.loop-gap.gifts.items in
    let gap = c.gap-item.result in
    record {
      each = c.in_ok-give.ensures.each ∙ c.loop-gap.invariant.each;
      so_far = λ arcs built cleaned owned many.
          gifts_more c.args.rule c.args.most arcs c.args.f.now c.args.areas.now cleaned c.as_slice-gap-items.result.now c.loop-gap.gap-index gap gap c.in_ok-to.to old (items c.give.new.lists.items)
          c.loop-gap-test.true c.gap-item.is
          (c.in_ok-give.ensures.exact ∙ ap (λ (faces : List ℕ). given c.in_ok-to.to faces old) c.faces.ensures.all)
          (c.in_ok-to.ensures.exact arcs built cleaned owned)
          (c.loop-gap.invariant.so_far arcs built cleaned owned many);
    }
