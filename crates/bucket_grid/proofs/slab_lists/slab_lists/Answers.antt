use Rattle.std.proofs.Common.{◌≡◌, ◌∙◌, sym, ap, subst, rules, ℕ, ◌+◌, List, map, get_or, take, w64, FitsSigned, to_z-of_z}
use Rattle.std.proofs.lemmas.List.{take_more, get_or-map}
use Rattle.bucket_grid.specs.Rects.{whole}
use Rattle.bucket_grid.specs.Slabs.{along, slab_at, AreListed}
use Rattle.bucket_grid.proofs.ListLemmas.{listed_more}
use Rattle.bucket_grid.proofs.slab_lists.slab_lists.Goals as goal

pub loop-i-preserved : goal.loop-i-preserved
loop-i-preserved g c =
    let s = c.args.slabs.now in
    let corners = g.T.Boxed.corners in
    let items = c.args.items.now in
    let boxes = map corners items in
    let i = get_or c.args.near.now c.loop-i.i-index 0 in
    let item = c.index-items-i.result in
    let there = c.requires.near c.loop-i.i-index 0 c.loop-i-test.true in
    let rect : c.rect-rect.result ≡ get_or boxes i whole = c.rect-rect.ensures.exact ∙ ap corners c.index-items-i.is ∙ sym (get_or-map corners items i item whole there) in
    let f₁ : FitsSigned w64 c.coordinate.result = search rules in
    let f₂ : FitsSigned w64 c.coordinate-in-loop-i.result = search rules in
    let from : c.slab_of-from.result ≡ slab_at s c.coordinate.result = simp to_z-of_z at c.slab_of-from.ensures.exact in
    let to : c.slab_of-to.result ≡ slab_at s c.coordinate-in-loop-i.result = simp to_z-of_z at c.slab_of-to.ensures.exact in
    let low : c.coordinate.result ≡ along s.axis (get_or boxes i whole).low = c.coordinate.ensures.exact ∙ ap (along s.axis) (c.low.ensures.exact ∙ (λ k. (rect k).low)) in
    let high : c.coordinate-in-loop-i.result ≡ along s.axis (get_or boxes i whole).high = c.coordinate-in-loop-i.ensures.exact ∙ ap (along s.axis) (c.high.ensures.exact ∙ (λ k. (rect k).high)) in
    subst (λ (ids : List ℕ). AreListed s boxes ids c.add_to_lists.new.lists.items) (sym (take_more c.args.near.now c.loop-i.i-index 0 c.loop-i-test.true))
    (listed_more s boxes (take c.loop-i.i-index c.args.near.now) i c.slab_of-from.result (c.slab_of-to.result + 1) c.loop-i.lists.items c.add_to_lists.new.lists.items
    (from ∙ ap (slab_at s) low) (ap (λ (n : ℕ). n + 1) (to ∙ ap (slab_at s) high)) c.loop-i.invariant c.in_ok-add_to_lists.ensures.exact)
