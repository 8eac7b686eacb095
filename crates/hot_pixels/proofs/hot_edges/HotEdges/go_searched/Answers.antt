use Rattle.std.proofs.Common.{rules, ◌≡◌, ◌++◌, ◌∙◌, ap, subst, List, drop, filter}
use Rattle.std.specs.List.Sorted.{IsPermutation}
use Rattle.std.proofs.lemmas.List.Sorted.{IsPermutation-refl}
use Rattle.std.proofs.lemmas.Result.{on_ok_weaker}
use Rattle.plane_model.specs.Points.{GridPoint, Path}
use Rattle.plane_model.specs.Pixel.{meets}
use Rattle.plane_model.specs.Hot.{chain_among}
use Rattle.hot_pixels.proofs.ChainLemmas.{sorted_is_chain}
use Rattle.hot_pixels.proofs.hot_edges.HotEdges.go_searched.Goals as goal

pub returns : goal.returns
returns c =
    let s = c.args.s.now in
    let points = c.self.inside.points.items in
    let same : points ≡ c.args.self.now.points = search rules in
    let met : c.in_ok-met.met.items ≡ filter (meets s) points = c.in_ok-met.ensures.exact ∙ ap (filter (meets s)) c.deref.ensures.value in
    let h = c.in_ok-chain.ensures.made in
    let chain : c.in_ok-chain.chain ≡ chain_among c.args.self.now.points s =
    sorted_is_chain s points points c.in_ok-chain.chain c.self.invariant.0.0 (IsPermutation-refl points) (subst (λ (xs : List GridPoint). IsPermutation xs c.in_ok-chain.chain) met h.moved) h.in_order ∙ (λ i. chain_among (same i) s) in
    record { appended = on_ok_weaker c.append.result (λ e. e ∙ ap (λ (xs : Path). c.args.path.now ++ xs) (c.after_first.ensures.exact ∙ ap (drop 1) (c.as_slice.ensures.all ∙ chain))) c.append.ensures.ok }
