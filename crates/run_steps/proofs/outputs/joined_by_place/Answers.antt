use Rattle.std.proofs.Common.{List, [], ◌∷◌, ℕ, None, Ok}
use Rattle.std.proofs.lemmas.Result.{IfOk-weaker, IfErr-weaker}
use Rattle.run_plane.specs.declared.layer.Layer.{Layer}
use Rattle.run_tables.specs.Matching.{AreMatches}
use Rattle.run_state.specs.Origins.{base_of, one_layer, origin_layers}
use Rattle.run_state.specs.Stops.{StopsAs}
use Rattle.run_tables.specs.Made.{GivesTable}
use Rattle.spatial_join.specs.Joined.{join_matched}
use Rattle.run_steps.specs.Commands.{JoinsByPlace}
use Rattle.run_steps.specs.Refusals.{RefusesByPlace}
use Rattle.run_steps.proofs.ByPlace.{source_goes, source_stops}
use Rattle.run_steps.proofs.outputs.joined_by_place.Goals as goal

pub returns-clause-joins : goal.returns-clause-joins
returns-clause-joins c =
    let base = base_of c.args.base.now in
    let source : Layer = c.in_ok-source.source.now in
    let layer : Layer = c.args.layer.now in
    let spec = c.args.spec.now in
    IfOk-weaker c.joined_with.result (λ made. (matches : List (List ℕ)) × AreMatches base.plane source layer matches × GivesTable (join_matched layer.table source.table matches spec) layer made)
    (λ made. JoinsByPlace base c.args.layers.now c.args.from.now spec layer (made ∷ []))
    (λ made w. record { source = source; found = c.in_ok-source.ensures.ok; matches = w.0; are = w.1; joined = w.2 }) c.joined_with.ensures.joins

pub returns-clause-accepted : goal.returns-clause-accepted
returns-clause-accepted c =
    let base = base_of c.args.base.now in
    let source : Layer = c.in_ok-source.source.now in
    let layer : Layer = c.args.layer.now in
    let spec = c.args.spec.now in
    let answer = one_layer (origin_layers base.sources c.args.layers.now c.args.from.now) in
    IfOk-weaker c.joined_with.result (λ made. RefusesByPlace base.plane (Ok source) spec layer None) (λ made. RefusesByPlace base.plane answer spec layer None)
    (λ made h. source_goes base.plane spec layer answer source c.in_ok-source.ensures.ok h) c.joined_with.ensures.accepted

pub returns-clause-stops : goal.returns-clause-stops
returns-clause-stops c =
    let base = base_of c.args.base.now in
    let source : Layer = c.in_ok-source.source.now in
    let layer : Layer = c.args.layer.now in
    let spec = c.args.spec.now in
    let answer = one_layer (origin_layers base.sources c.args.layers.now c.args.from.now) in
    IfErr-weaker c.joined_with.result (StopsAs (RefusesByPlace base.plane (Ok source) spec layer)) (StopsAs (RefusesByPlace base.plane answer spec layer))
    (λ stop h. source_stops base.plane spec layer answer source stop c.in_ok-source.ensures.ok h) c.joined_with.ensures.stops
