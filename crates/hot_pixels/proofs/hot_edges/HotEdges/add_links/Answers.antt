use Rattle.std.proofs.Common.{rules, ◌≡◌, ◌<◌, ◌∷◌, ◌++◌, ◌∙◌, inl, refl, sym, ap, subst, ℕ, List, length, get_or, drop, Some, Contains}
use Rattle.std.specs.Option.{option_to_list}
use Rattle.std.proofs.lemmas.List.{get_or_default}
use Rattle.std.proofs.lemmas.Option.{slice_get-get_or}
use Rattle.std.proofs.lemmas.Result.{on_ok_weaker}
use Rattle.plane_model.specs.Points.{GridPoint, Segment}
use Rattle.plane_model.specs.Hot.{chain_among}
use Rattle.hot_pixels.specs.Edges.{HasEdgeAt}
use Rattle.hot_pixels.specs.Links.{link_along, path_links}
use Rattle.hot_pixels.specs.Marking.{MeetsEndsAlone, HasClearEdge}
use Rattle.hot_pixels.proofs.ChainLemmas.{chain_begins}
use Rattle.hot_pixels.proofs.MarkingLemmas.{clear_at}
use Rattle.hot_pixels.proofs.PathLinkLemmas.{clear_links}
use Rattle.hot_pixels.proofs.hot_edges.HotEdges.add_links.Goals as goal

-- an edge that stands at a place is its own
at_place : (edges : List Segment) (i : ℕ) (s : Segment) → i < length edges → s ≡ get_or edges i s → HasEdgeAt edges s i
at_place edges i s l e = record { edge = s; there = slice_get-get_or edges i s l ∙ ap Some (sym e); along = inl refl }

listed : (edges : List Segment) (i : ℕ) (s : Segment) → i < length edges → s ≡ get_or edges i s → Contains edges s
listed edges i s l e = (i, l, sym e)

pub returns-then-is_clear_edge : goal.returns-then-is_clear_edge
returns-then-is_clear_edge c =
    let s = c.index.result.now in
    let i = c.args.i in
    let points = c.self.inside.points.items in
    let edges = c.self.inside.edges.items in
    let marking = c.self.inside.marking in
    let same : points ≡ c.args.self.now.points = search rules in
    let alike : edges ≡ c.args.self.now.edges = search rules in
    let within : i < length edges = subst (λ (xs : List Segment). i < length xs) (sym alike) c.requires.there in
    let clear : HasClearEdge edges marking.crowded.items marking.lasts.items s = record {
      number = i;
      has_edge = at_place edges i s within c.index.ensures;
      apart = c.is_clear_edge.ensures.apart c.if-is_clear_edge.true;
      alone = c.is_clear_edge.ensures.alone c.if-is_clear_edge.true;
    } in
    let alone : MeetsEndsAlone points s = clear_at points edges marking.crowded.items marking.lasts.items marking.meetings.items marking.inner.items s c.self.invariant.1.0 clear in
    let hot = c.self.invariant.0.1 in
    let here = listed edges i s within c.index.ensures in
    let links = clear_links points s (hot.start s here) (hot.stop s here) alone in
    record {
      added = λ d. on_ok_weaker c.push_link.result
          (λ e. e ∙ ap (λ (xs : List Segment). c.args.links.now.items ++ xs) ((λ j. option_to_list (link_along (record { start = c.a.ensures.exact j; stop = c.b.ensures.exact j }))) ∙ links ∙ ap (λ (t : Segment). path_links (chain_among points t)) (c.index.ensures ∙ get_or_default edges i s d within)
          ∙ (λ j. path_links (chain_among (same j) (get_or (alike j) i d)))))
          c.push_link.ensures.added;
    }

pub go_gathered-requires-clause-edge : goal.go_gathered-requires-clause-edge
go_gathered-requires-clause-edge c =
    let s = c.index.result.now in
    let edges = c.self.inside.edges.items in
    let alike : edges ≡ c.args.self.now.edges = search rules in
    let within : c.args.i < length edges = subst (λ (xs : List Segment). c.args.i < length xs) (sym alike) c.requires.there in
    subst (λ (xs : List Segment). HasEdgeAt xs s c.args.i) alike (at_place edges c.args.i s within c.index.ensures)

pub go_gathered-requires-clause-start : goal.go_gathered-requires-clause-start
go_gathered-requires-clause-start c =
    let s = c.index.result.now in
    let edges = c.self.inside.edges.items in
    let same : c.self.inside.points.items ≡ c.args.self.now.points = search rules in
    let alike : edges ≡ c.args.self.now.edges = search rules in
    let within : c.args.i < length edges = subst (λ (xs : List Segment). c.args.i < length xs) (sym alike) c.requires.there in
    subst (λ (xs : List GridPoint). Contains xs s.start) same (c.self.invariant.0.1.start s (listed edges c.args.i s within c.index.ensures))

pub go_gathered-requires-clause-stop : goal.go_gathered-requires-clause-stop
go_gathered-requires-clause-stop c =
    let s = c.index.result.now in
    let edges = c.self.inside.edges.items in
    let same : c.self.inside.points.items ≡ c.args.self.now.points = search rules in
    let alike : edges ≡ c.args.self.now.edges = search rules in
    let within : c.args.i < length edges = subst (λ (xs : List Segment). c.args.i < length xs) (sym alike) c.requires.there in
    subst (λ (xs : List GridPoint). Contains xs s.stop) same (c.self.invariant.0.1.stop s (listed edges c.args.i s within c.index.ensures))

pub returns : goal.returns
returns c =
    let s = c.index.result.now in
    let i = c.args.i in
    let points = c.self.inside.points.items in
    let edges = c.self.inside.edges.items in
    let same : points ≡ c.args.self.now.points = search rules in
    let alike : edges ≡ c.args.self.now.edges = search rules in
    let within : i < length edges = subst (λ (xs : List Segment). i < length xs) (sym alike) c.requires.there in
    let hot = c.self.invariant.0.1 in
    let here = listed edges i s within c.index.ensures in
    let rest : c.as_slice.result.now ≡ drop 1 (chain_among points s) = c.as_slice.ensures.all ∙ c.in_ok-go_gathered.ensures.appended ∙ (λ j. c.new-rest.ensures.empty j ++ drop 1 (chain_among (sym same j) s)) in
    let whole : c.a-2.result ∷ c.as_slice.result.now ≡ chain_among points s = (λ j. c.a-2.ensures.exact j ∷ rest j) ∙ chain_begins points s (hot.start s here) in
    record {
      added = λ d. on_ok_weaker c.add_links_after.result
          (λ e. e ∙ ap (λ (xs : List Segment). c.args.links.now.items ++ xs) (ap path_links whole ∙ ap (λ (t : Segment). path_links (chain_among points t)) (c.index.ensures ∙ get_or_default edges i s d within)
          ∙ (λ j. path_links (chain_among (same j) (get_or (alike j) i d)))))
          c.add_links_after.ensures.added;
    }
