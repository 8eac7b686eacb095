use Rattle.std.proofs.Common.{◌≡◌, ◌∙◌, ℕ, ◌+◌, ◌-◌, sym, subst, ap, arith, rules, List, ℤ, w64, FitsSigned, to_z-of_z}
use Rattle.grid_base.specs.Grid.{Corners}
use Rattle.bucket_grid.specs.Rects.{IsPlaceOf}
use Rattle.bucket_grid.specs.Leading.{IsOnWay}
use Rattle.bucket_grid.specs.Slabs.{slab_at}
use Rattle.bucket_grid.proofs.OnTheWay.{way_begins, on_way_within, on_way_leaf, on_way_slab}
use Rattle.bucket_grid.proofs.buckets.Buckets.bucket_of.Goals as goal

pub loop-step-init : goal.loop-step-init
loop-step-init c = way_begins c.self.inside.nodes.items c.self.inside.rects.items c.self.inside.near c.self.inside.root c.args.p c.self.invariant (search rules)

pub index-requires : goal.index-requires
index-requires c = let h = on_way_within c.self.inside.nodes.items c.self.inside.rects.items c.args.p c.loop-step.node c.loop-step._step c.loop-step.invariant in omega (arith, c.self.inside.nodes.ok.0)

pub returns-in-Leaf : goal.returns-in-Leaf
returns-in-Leaf c = record {
  place = subst (λ (rects : List Corners). IsPlaceOf rects c.args.p c.in-Leaf.place) (λ i. (c.self.view_is i).rects)
      (on_way_leaf c.self.inside.nodes.items c.self.inside.rects.items c.args.p c.loop-step.node c.loop-step._step c.loop-step.invariant c.index.result.now c.index.ensures c.in-Leaf.place c.in-Leaf.is);
}

pub loop-step-preserved : goal.loop-step-preserved
loop-step-preserved c =
    let s = c.in-Split.slabs in
    let f : FitsSigned w64 c.coordinate.result = search rules in
    let e : c.child_of-node.result ≡ c.in-Split.children + (s.last - slab_at s c.coordinate.result) = simp to_z-of_z at c.child_of-node.ensures.exact in
    let m = e ∙ ap (λ (z : ℤ). c.in-Split.children + (s.last - slab_at s z)) c.coordinate.ensures.exact in
    subst (λ (n : ℕ). IsOnWay c.self.inside.nodes.items c.self.inside.rects.items c.args.p n (c.loop-step._step + 1)) (sym m)
    (on_way_slab c.self.inside.nodes.items c.self.inside.rects.items c.args.p c.loop-step.node c.loop-step._step c.loop-step.invariant c.index.result.now c.index.ensures s c.in-Split.children c.in-Split.is)
