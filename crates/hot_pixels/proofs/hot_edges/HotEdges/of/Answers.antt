use Rattle.std.proofs.Common.{◌≡◌, ◌∙◌, sym, subst, List, AllPairs, IsTrue}
use Rattle.std.proofs.lemmas.Result.{IfOk-weaker}
use Rattle.plane_model.specs.Points.{GridPoint, Segment, is_before}
use Rattle.plane_model.specs.Hot.{hot_points}
use Rattle.lists.specs.Lists.{ascending}
use Rattle.hot_pixels.specs.Spots.{spots_of}
use Rattle.hot_pixels.specs.Edges.{AreEdgesOf}
use Rattle.hot_pixels.specs.HotEnds.{PointsAndEdges, AreEndsOf}
use Rattle.hot_pixels.specs.Found.{HasAllCrossings}
use Rattle.hot_pixels.proofs.SortLemmas.{ascending_pairs}
use Rattle.hot_pixels.proofs.HotLemmas.{found_is_hot, edges_end_hot}
use Rattle.hot_pixels.proofs.hot_edges.HotEdges.of.Goals as goal

pub returns : goal.returns
returns c =
    let d = c.args.d.now in
    let edges = c.in_ok-edges.edges.segments.items in
    let points = c.in_ok-points.points.items in
    let made = c.add_crossings.new.points.items in
    let ends = c.in_ok-found.found.items in
    let along : AreEdgesOf (spots_of d) edges = subst (λ (xs : List Segment). AreEdgesOf xs edges) (c.deref.ensures.value ∙ c.in_ok-spots.ensures.exact) c.in_ok-edges.ensures.made in
    let are_ends : AreEndsOf edges ends = subst (λ (xs : List Segment). AreEndsOf xs ends) c.deref-2.ensures.value c.in_ok-found.ensures.made in
    let h : HasAllCrossings edges ends made = subst (λ (xs : List Segment). HasAllCrossings xs ends made) c.deref-4.ensures.value c.in_ok-add_crossings.ensures.ok in
    let exact = found_is_hot d edges along ends made are_ends h points c.in_ok-points.ensures.exact in
    record {
      points = IfOk-weaker _ (λ (s : PointsAndEdges). s.points ≡ points) (λ (s : PointsAndEdges). s.points ≡ ascending is_before (hot_points d)) (λ s e. e ∙ exact) c.over.ensures.points;
      edges = IfOk-weaker _ (λ (s : PointsAndEdges). s.edges ≡ edges) (λ (s : PointsAndEdges). AreEdgesOf (spots_of d) s.edges) (λ s e. subst (AreEdgesOf (spots_of d)) (sym e) along) c.over.ensures.edges;
    }

pub over-requires-clause-up : goal.over-requires-clause-up
over-requires-clause-up c = subst (λ (xs : List GridPoint). AllPairs (λ p q. IsTrue (is_before p q)) xs) (sym c.in_ok-points.ensures.exact) (ascending_pairs c.add_crossings.new.points.items)

pub over-requires-clause-ends : goal.over-requires-clause-ends
over-requires-clause-ends c =
    let d = c.args.d.now in
    let edges = c.in_ok-edges.edges.segments.items in
    let made = c.add_crossings.new.points.items in
    let ends = c.in_ok-found.found.items in
    let along : AreEdgesOf (spots_of d) edges = subst (λ (xs : List Segment). AreEdgesOf xs edges) (c.deref.ensures.value ∙ c.in_ok-spots.ensures.exact) c.in_ok-edges.ensures.made in
    let are_ends : AreEndsOf edges ends = subst (λ (xs : List Segment). AreEndsOf xs ends) c.deref-2.ensures.value c.in_ok-found.ensures.made in
    let h : HasAllCrossings edges ends made = subst (λ (xs : List Segment). HasAllCrossings xs ends made) c.deref-4.ensures.value c.in_ok-add_crossings.ensures.ok in
    edges_end_hot d edges along ends made are_ends h c.in_ok-points.points.items c.in_ok-points.ensures.exact
