use Rattle.std.proofs.Common.{rules, ◌≡◌, ◌∙◌, ◌-◌, ap, List, length}
use Rattle.std.specs.List.{count_by}
use Rattle.plane_model.specs.Points.{GridPoint}
use Rattle.plane_model.specs.Pixel.{meets}
use Rattle.plane_model.specs.Hot.{chain_among}
use Rattle.hot_pixels.proofs.ChainLemmas.{chain_length, chain_is_drawn}
use Rattle.hot_pixels.proofs.hot_set.HotSet.chain_links.Goals as goal
use Rattle.hot_pixels.proofs.hot_set.HotSet.chain_links.Goals.{After-saturating_sub}

module _ (c : After-saturating_sub) where
  exact : c.saturating_sub.result ≡ length (chain_among c.args.self.now c.args.s.now) - 1
  exact =
      let s = c.args.s.now in
      let points = c.self.inside.drawn.points in
      let curved = c.self.inside.curved.items in
      let met : c.count_near.result ≡ count_by (meets s) curved = c.count_near.ensures.exact ∙ (λ i. count_by (meets s) (c.deref.ensures.value i)) in
      let same : points ≡ c.args.self.now = search rules in
      let count : c.count_near.result ≡ length (chain_among c.args.self.now s) = met ∙ chain_length s points curved c.self.invariant.up c.self.invariant.moved ∙ (λ i. length (chain_among (same i) s)) in
      let e : c.saturating_sub.result ≡ c.count_near.result - 1 = search rules in
      e ∙ (λ i. count i - 1)

pub returns-clause-exact : goal.returns-clause-exact
returns-clause-exact c = exact c

pub returns-clause-drawn : goal.returns-clause-drawn
returns-clause-drawn c = λ d k. exact c ∙ ap (λ (chain : List GridPoint). length chain - 1) (chain_is_drawn d c.args.s.now c.args.self.now k)
