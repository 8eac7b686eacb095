use Rattle.std.proofs.Common.{◌≡◌, List, ℕ, None, Ok}
use Rattle.std.proofs.lemmas.Result.{IfOk-weaker, IfErr-weaker}
use Rattle.run_plane.specs.declared.layer.Layer.{Layer}
use Rattle.run_state.specs.Stops.{StopsAs, StopsFor, table_refusal}
use Rattle.run_tables.specs.Matching.{AreMatches}
use Rattle.run_tables.specs.Made.{GivesTable}
use Rattle.spatial_join.specs.Joined.{join_matched}
use Rattle.run_steps.specs.Refusals.{RefusesByPlace}
use Rattle.run_steps.proofs.ByPlace.{place_stops}
use Rattle.run_steps.proofs.outputs.joined_with.Goals as goal

pub returns-clause-joins : goal.returns-clause-joins
returns-clause-joins c =
    let layer : Layer = c.args.layer.now in
    let source : Layer = c.args.source.now in
    let spec = c.args.spec.now in
    let matches : List (List ℕ) = c.in_ok-matches.matches in
    IfOk-weaker c.joined_by_matches.result (GivesTable (join_matched layer.table source.table matches spec) layer)
    (λ made. (found : List (List ℕ)) × AreMatches c.args.plane.now source layer found × GivesTable (join_matched layer.table source.table found spec) layer made)
    (λ made h. (matches, c.in_ok-matches.ensures.exact, h)) c.joined_by_matches.ensures.made

pub returns-clause-accepted : goal.returns-clause-accepted
returns-clause-accepted c =
    let layer : Layer = c.args.layer.now in
    let source : Layer = c.args.source.now in
    let spec = c.args.spec.now in
    let matches : List (List ℕ) = c.in_ok-matches.matches in
    IfOk-weaker c.joined_by_matches.result (λ made. table_refusal (join_matched layer.table source.table matches spec) ≡ None) (λ made. RefusesByPlace c.args.plane.now (Ok source) spec layer None)
    (λ made h. (matches, c.in_ok-matches.ensures.exact, h)) c.joined_by_matches.ensures.accepted

pub returns-clause-stops : goal.returns-clause-stops
returns-clause-stops c =
    let layer : Layer = c.args.layer.now in
    let source : Layer = c.args.source.now in
    let spec = c.args.spec.now in
    let matches : List (List ℕ) = c.in_ok-matches.matches in
    IfErr-weaker c.joined_by_matches.result (StopsFor (table_refusal (join_matched layer.table source.table matches spec))) (StopsAs (RefusesByPlace c.args.plane.now (Ok source) spec layer))
    (λ stop h. place_stops c.args.plane.now source spec layer matches stop c.in_ok-matches.ensures.exact h) c.joined_by_matches.ensures.stops
