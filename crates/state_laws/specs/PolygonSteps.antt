-- Laws of steps: the state after a command on shapes or one that unites layers, and why it is refused.
use Rattle.std.specs.Prelude.{◌≡◌, Bool, true, false, List}
use Rattle.job_terms.specs.declared.job.Action.TheVariants as does
use Rattle.job_terms.specs.declared.job.Command.{Command}
use Rattle.job_terms.specs.declared.job.JointAction.TheVariants as joint
use Rattle.job_terms.specs.declared.job.LayerAction.{LayerAction}
use Rattle.job_terms.specs.declared.job.LayerAction.TheVariants as action
use Rattle.run_state.specs.Origins.{Base}
use Rattle.run_state.specs.declared.state.HeldLayer.{HeldLayer}
use Rattle.chain_model.specs.State.{State}
use Rattle.chain_model.specs.Targets.{SourceLayers}
use Rattle.layer_laws.specs.Shown.{View, IsView, SourcesShow, StateShows, IsSeenIn}
use Rattle.state_laws.specs.Steps.{JointShows, StepShows}

-- the command takes shapes of every kind, or refuses those that are no polygons
abbrev pub is_on_shapes : LayerAction → Bool
is_on_shapes (action.Clip from) = true
is_on_shapes (action.Erase from) = true
is_on_shapes (action.Dissolve spec group_points) = true
is_on_shapes action.Explode = true
is_on_shapes (action.Clean rule allow_empty gap) = true
is_on_shapes action.Mosaic = true
is_on_shapes action.InnerLines = true
is_on_shapes (action.Lines fields) = true
is_on_shapes (action.FilterIslands least_area least_links remove_empty) = true
is_on_shapes _ = false

-- whatever the kinds of the layers of its target are
abbrev pub ShapeStepsShow : Type 0
ShapeStepsShow = (v : View) → IsView v → (base : Base) → IsSeenIn v base.plane → (sources : SourceLayers) → SourcesShow v base.sources sources → (layers : List HeldLayer) (s : State) → StateShows v layers s →
    (c : Command) (a : LayerAction) → c.action ≡ does.Each a → is_on_shapes a ≡ true → StepShows v base layers sources s c a

-- a command that unites the layers of its target
abbrev pub UnionStepsShow : Type 0
UnionStepsShow = (v : View) → IsView v → (base : Base) → IsSeenIn v base.plane → (sources : SourceLayers) (layers : List HeldLayer) (s : State) → StateShows v layers s →
    (c : Command) → c.action ≡ does.Together joint.Union → JointShows v base layers sources s c joint.Union
