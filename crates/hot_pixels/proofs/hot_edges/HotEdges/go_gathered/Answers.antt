use Rattle.std.proofs.Common.{rules, ◌≡◌, ◌++◌, ◌∙◌, sym, ap, subst, List, drop, Contains}
use Rattle.plane_model.specs.Points.{GridPoint, Segment, Path}
use Rattle.plane_model.specs.Hot.{chain_among}
use Rattle.hot_pixels.specs.Chains.{GoesRising}
use Rattle.hot_pixels.specs.Edges.{HasEdgeAt}
use Rattle.hot_pixels.proofs.ChainLemmas.{rising_is_chain}
use Rattle.hot_pixels.proofs.InnerLemmas.{looked_up_met}
use Rattle.hot_pixels.proofs.hot_edges.HotEdges.go_gathered.Goals as goal

pub returns-then-is_done : goal.returns-then-is_done
returns-then-is_done c =
    let s = c.args.s.now in
    let points = c.self.inside.points.items in
    let edges = c.self.inside.edges.items in
    let marking = c.self.inside.marking in
    let found = c.in_ok-found.found.items in
    let same : points ≡ c.args.self.now.points = search rules in
    let alike : edges ≡ c.args.self.now.edges = search rules in
    let here : HasEdgeAt edges s c.args.i = subst (λ (xs : List Segment). HasEdgeAt xs s c.args.i) (sym alike) c.requires.edge in
    let met = looked_up_met points edges marking.crowded.items marking.lasts.items marking.meetings.items marking.inner.items c.args.i s found c.self.invariant.1.0 here c.in_ok-found.ensures.made (subst (λ (xs : List GridPoint). Contains xs s.start) (sym same) c.requires.start) (subst (λ (xs : List GridPoint). Contains xs s.stop) (sym same) c.requires.stop) in
    let h : GoesRising s c.args.path.now found c.go_rising.new.path = c.in_ok-is_done.ensures.did c.if-is_done.true in
    record { appended = h.appended ∙ ap (λ (xs : Path). c.args.path.now ++ drop 1 xs) (rising_is_chain s points found h.sorted met h.moved h.rise ∙ ap (λ (xs : List GridPoint). chain_among xs s) same) }
