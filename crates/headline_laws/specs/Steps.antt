-- What each command does to layers shows what the state's step does, whatever the command and the layers are.
use Rattle.std.specs.Prelude.{◌≡◌, List}
use Rattle.job_terms.specs.declared.job.Action.TheVariants as action
use Rattle.job_terms.specs.declared.job.Command.{Command}
use Rattle.job_terms.specs.declared.job.JointAction.{JointAction}
use Rattle.job_terms.specs.declared.job.LayerAction.{LayerAction}
use Rattle.run_state.specs.Origins.{Base}
use Rattle.run_state.specs.declared.state.HeldLayer.{HeldLayer}
use Rattle.chain_model.specs.State.{State}
use Rattle.chain_model.specs.Targets.{SourceLayers}
use Rattle.layer_laws.specs.Shown.{View, IsView, SourcesShow, StateShows, IsSeenIn}
use Rattle.state_laws.specs.Steps.{JointShows, StepShows}
use Rattle.headline_laws.specs.ChainSteps.{CommandsShow}

-- a command that changes each layer of its target by itself
abbrev pub EachStepShows : Type 0
EachStepShows = (v : View) → IsView v → (base : Base) → IsSeenIn v base.plane → (sources : SourceLayers) → SourcesShow v base.sources sources → (layers : List HeldLayer) (s : State) → StateShows v layers s →
    (c : Command) (a : LayerAction) → c.action ≡ action.Each a → StepShows v base layers sources s c a

-- a command that takes them together
abbrev pub EachJointStepShows : Type 0
EachJointStepShows = (v : View) → IsView v → (base : Base) → IsSeenIn v base.plane → (sources : SourceLayers) (layers : List HeldLayer) (s : State) → StateShows v layers s →
    (c : Command) (a : JointAction) → c.action ≡ action.Together a → JointShows v base layers sources s c a

-- so all commands in order
abbrev pub AllCommandsShow : Type 0
AllCommandsShow = (v : View) → IsView v → (base : Base) → IsSeenIn v base.plane → (sources : SourceLayers) → SourcesShow v base.sources sources → (cs : List Command) (layers : List HeldLayer) (s : State) → StateShows v layers s →
    CommandsShow v base sources layers s cs
