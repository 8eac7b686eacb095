use Rattle.std.proofs.Common.{rules, ◌≡◌, ◌∙◌, subst, List, filter}
use Rattle.std.specs.List.Sorted.{IsPermutation}
use Rattle.std.specs.Prelude.{IfOk}
use Rattle.std.proofs.lemmas.Result.{IfOk-weaker}
use Rattle.plane_model.specs.Points.{GridPoint}
use Rattle.plane_model.specs.Pixel.{meets}
use Rattle.plane_model.specs.Drawing.{Drawing}
use Rattle.plane_model.specs.Hot.{chain_among, chain_of}
use Rattle.hot_pixels.specs.Chains.{AreHotPointsOf, AreSortedAlong}
use Rattle.hot_pixels.proofs.ChainLemmas.{sorted_is_chain, chain_is_drawn}
use Rattle.hot_pixels.proofs.hot_set.HotSet.chain_of.Goals as goal
use Rattle.hot_pixels.proofs.hot_set.HotSet.chain_of.Goals.{After-sorted_along}

module _ (c : After-sorted_along) where
  exact : IfOk c.sorted_along.result (λ (chain : List GridPoint). chain ≡ chain_among c.args.self.now c.args.s.now)
  exact =
      let s = c.args.s.now in
      let points = c.self.inside.drawn.points in
      let curved = c.self.inside.curved.items in
      let met : c.in_ok-met.met.items ≡ filter (meets s) curved = c.in_ok-met.ensures.exact ∙ (λ i. filter (meets s) (c.deref.ensures.value i)) in
      let same : points ≡ c.args.self.now = search rules in
      IfOk-weaker _ (AreSortedAlong s c.in_ok-met.met.items) (λ (chain : List GridPoint). chain ≡ chain_among c.args.self.now s)
      (λ chain h. sorted_is_chain s points curved chain c.self.invariant.up c.self.invariant.moved (subst (λ (xs : List GridPoint). IsPermutation xs chain) met h.moved) h.in_order ∙ (λ i. chain_among (same i) s))
      c.sorted_along.ensures.made

pub returns-clause-exact : goal.returns-clause-exact
returns-clause-exact c = exact c

pub returns-clause-drawn : goal.returns-clause-drawn
returns-clause-drawn c =
    let points = c.args.self.now in
    let s = c.args.s.now in
    IfOk-weaker _ (λ (chain : List GridPoint). chain ≡ chain_among points s) (λ (chain : List GridPoint). (d : Drawing) → AreHotPointsOf d points → chain ≡ chain_of d s) (λ chain h d k. h ∙ chain_is_drawn d s points k) (exact c)
