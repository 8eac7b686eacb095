use Rattle.std.proofs.Common.{rules, ◌≡◌, ◌++◌, ◌∙◌, ap, subst, List, drop}
use Rattle.std.proofs.lemmas.Result.{on_ok_weaker}
use Rattle.plane_model.specs.Points.{GridPoint, Path, Segment}
use Rattle.hot_pixels.specs.Edges.{HasEdgeAt}
use Rattle.hot_pixels.specs.Marking.{MeetsEndsAlone, HasClearEdge}
use Rattle.hot_pixels.proofs.MarkingLemmas.{clear_at, clear_chain}
use Rattle.hot_pixels.proofs.hot_edges.HotEdges.go_along.Goals as goal

pub returns-then-is_clear_edge : goal.returns-then-is_clear_edge
returns-then-is_clear_edge c =
    let s = c.args.s.now in
    let points = c.self.inside.points.items in
    let edges = c.self.inside.edges.items in
    let marking = c.self.inside.marking in
    let same : points ≡ c.args.self.now.points = search rules in
    let here : HasEdgeAt edges s c.in-Some.number = subst (λ (xs : List Segment). HasEdgeAt xs s c.in-Some.number) c.deref.ensures.value c.in-Some.ensures.found in
    let clear : HasClearEdge edges marking.crowded.items marking.lasts.items s = record {
      number = c.in-Some.number;
      has_edge = here;
      apart = c.is_clear_edge.ensures.apart c.if-is_clear_edge.true;
      alone = c.is_clear_edge.ensures.alone c.if-is_clear_edge.true;
    } in
    let alone : MeetsEndsAlone c.args.self.now.points s = subst (λ (xs : List GridPoint). MeetsEndsAlone xs s) same (clear_at points edges marking.crowded.items marking.lasts.items marking.meetings.items marking.inner.items s c.self.invariant.1.0 clear) in
    record { appended = on_ok_weaker c.go_to_stop.result (λ e. e ∙ ap (λ (chain : Path). c.args.path.now ++ drop 1 chain) (clear_chain c.args.self.now.points s c.requires.start c.requires.stop alone)) c.go_to_stop.ensures.added }

pub go_gathered-requires-clause-edge : goal.go_gathered-requires-clause-edge
go_gathered-requires-clause-edge c =
    let s = c.args.s.now in
    let alike : c.self.inside.edges.items ≡ c.args.self.now.edges = search rules in
    subst (λ (xs : List Segment). HasEdgeAt xs s c.in-Some.number) (c.deref.ensures.value ∙ alike) c.in-Some.ensures.found
