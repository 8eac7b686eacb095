-- Laws of joins by place: a join of points with polygons, or of polygons with points, shows that of the state's layers,
-- and so does its step.
use Rattle.std.specs.Prelude.{◌≡◌, ℕ, true, List}
use Rattle.join_terms.specs.declared.calculations.CalcSpec.{CalcSpec}
use Rattle.spatial_join.specs.Joined.{join_matched}
use Rattle.job_terms.specs.declared.job.Action.TheVariants as does
use Rattle.job_terms.specs.declared.job.Command.{Command}
use Rattle.job_terms.specs.declared.job.LayerAction.TheVariants as action
use Rattle.job_terms.specs.declared.job.Origin.{Origin}
use Rattle.run_plane.specs.declared.layer.Layer.{Layer}
use Rattle.run_plane.specs.declared.plane.Plane.{Plane}
use Rattle.run_tables.specs.Matching.{AreMatches}
use Rattle.run_state.specs.Origins.{Base}
use Rattle.run_state.specs.Stops.{table_refusal}
use Rattle.run_state.specs.declared.state.HeldLayer.{HeldLayer}
use Rattle.run_checks.specs.Checks.{joins_with}
use Rattle.run_tables.specs.Made.{GivesTable, One}
use Rattle.chain_model.specs.State.{State, StateLayer}
use Rattle.chain_model.specs.Features.{place_join_layer}
use Rattle.chain_model.specs.Targets.{SourceLayers}
use Rattle.layer_laws.specs.Shown.{View, IsView, LayerShows, SourcesShow, StateShows, IsSeenIn}
use Rattle.layer_laws.specs.Reasons.{MakesAlike}
use Rattle.state_laws.specs.Steps.{StepShows}

-- ---- layers

-- by the rows of the source that match, as they are found
abbrev pub PlaceJoinsShow : Type 0
PlaceJoinsShow = (v : View) → IsView v → (plane : Plane) → IsSeenIn v plane → (layer source : Layer) (l m : StateLayer) → LayerShows v layer l → LayerShows v source m → joins_with source.kind layer.kind ≡ true →
    (spec : CalcSpec) (matches : List (List ℕ)) → AreMatches plane source layer matches →
    MakesAlike v (One (GivesTable (join_matched layer.table source.table matches spec) layer)) (table_refusal (join_matched layer.table source.table matches spec)) (place_join_layer v.answers m spec l)

-- ---- the step

-- whatever the kinds of the layers are
abbrev pub PlaceStepsShow : Type 0
PlaceStepsShow = (v : View) → IsView v → (base : Base) → IsSeenIn v base.plane → (sources : SourceLayers) → SourcesShow v base.sources sources → (layers : List HeldLayer) (s : State) → StateShows v layers s →
    (c : Command) (from : Origin) (spec : CalcSpec) → c.action ≡ does.Each (action.SpatialJoin from spec) → StepShows v base layers sources s c (action.SpatialJoin from spec)
