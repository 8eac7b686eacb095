-- What each command does to layers shows what the state's step does, and so do all commands in order.
use Rattle.std.proofs.Common.{◌≡◌, refl, List, [], ◌∷◌}
use Rattle.job_terms.specs.declared.job.Action.{Action}
use Rattle.job_terms.specs.declared.job.Action.TheVariants as action
use Rattle.job_terms.specs.declared.job.Command.{Command}
use Rattle.job_terms.specs.declared.job.JointAction.{JointAction}
use Rattle.job_terms.specs.declared.job.JointAction.TheVariants as joint
use Rattle.job_terms.specs.declared.job.LayerAction.{LayerAction}
use Rattle.job_terms.specs.declared.job.LayerAction.TheVariants as layer
use Rattle.run_state.specs.Origins.{Base}
use Rattle.run_state.specs.declared.state.HeldLayer.{HeldLayer}
use Rattle.chain_model.specs.State.{State}
use Rattle.chain_model.specs.Targets.{SourceLayers}
use Rattle.layer_laws.specs.Shown.{View, IsView, SourcesShow, StateShows, IsSeenIn}
use Rattle.state_laws.specs.Steps.{JointShows, StepShows}
use Rattle.state_laws.proofs.MergeStep.{merge_steps_show}
use Rattle.state_laws.proofs.PlaceSteps.{place_steps_show}
use Rattle.state_laws.proofs.PolygonSteps.{shape_steps_show}
use Rattle.state_laws.proofs.TableSteps.{table_steps_show}
use Rattle.state_laws.proofs.UnionStep.{union_steps_show}
use Rattle.headline_laws.proofs.OutputSteps.{output_steps_show}
use Rattle.headline_laws.specs.ChainSteps.{ActionShows, CommandsShow}
use Rattle.headline_laws.specs.Steps.{AllCommandsShow, EachJointStepShows, EachStepShows}

module _ (v : View) (view : IsView v) (base : Base) (seen : IsSeenIn v base.plane) (sources : SourceLayers) where
  joint_shows : (layers : List HeldLayer) (s : State) → StateShows v layers s → (c : Command) (a : JointAction) → c.action ≡ action.Together a → JointShows v base layers sources s c a
  joint_shows layers s h c (joint.MergeLayers force) is = merge_steps_show v base sources layers s h c force is
  joint_shows layers s h c joint.Union is = union_steps_show v view base seen sources layers s h c is

  module _ (owned : SourcesShow v base.sources sources) where
    step_shows : (layers : List HeldLayer) (s : State) → StateShows v layers s → (c : Command) (a : LayerAction) → c.action ≡ action.Each a → StepShows v base layers sources s c a
    step_shows layers s h c (layer.Clip from) is = shape_steps_show v view base seen sources owned layers s h c (layer.Clip from) is refl
    step_shows layers s h c (layer.Erase from) is = shape_steps_show v view base seen sources owned layers s h c (layer.Erase from) is refl
    step_shows layers s h c (layer.Dissolve spec group_points) is = shape_steps_show v view base seen sources owned layers s h c (layer.Dissolve spec group_points) is refl
    step_shows layers s h c (layer.Clean rule allow_empty gap) is = shape_steps_show v view base seen sources owned layers s h c (layer.Clean rule allow_empty gap) is refl
    step_shows layers s h c layer.Mosaic is = shape_steps_show v view base seen sources owned layers s h c layer.Mosaic is refl
    step_shows layers s h c layer.InnerLines is = shape_steps_show v view base seen sources owned layers s h c layer.InnerLines is refl
    step_shows layers s h c (layer.Lines fields) is = shape_steps_show v view base seen sources owned layers s h c (layer.Lines fields) is refl
    step_shows layers s h c layer.Explode is = shape_steps_show v view base seen sources owned layers s h c layer.Explode is refl
    step_shows layers s h c (layer.FilterIslands least_area least_links remove_empty) is = shape_steps_show v view base seen sources owned layers s h c (layer.FilterIslands least_area least_links remove_empty) is refl
    step_shows layers s h c (layer.SpatialJoin from spec) is = place_steps_show v view base seen sources owned layers s h c from spec is
    step_shows layers s h c (layer.Join from spec) is = table_steps_show v view base sources owned layers s h c (layer.Join from spec) is refl
    step_shows layers s h c (layer.Filter test invert remove_empty) is = table_steps_show v view base sources owned layers s h c (layer.Filter test invert remove_empty) is refl
    step_shows layers s h c (layer.FilterFields fields) is = table_steps_show v view base sources owned layers s h c (layer.FilterFields fields) is refl
    step_shows layers s h c (layer.RenameFields pairs) is = table_steps_show v view base sources owned layers s h c (layer.RenameFields pairs) is refl
    step_shows layers s h c (layer.Split field) is = table_steps_show v view base sources owned layers s h c (layer.Split field) is refl
    step_shows layers s h c (layer.Each assigns) is = table_steps_show v view base sources owned layers s h c (layer.Each assigns) is refl
    step_shows layers s h c (layer.Sort key descending) is = table_steps_show v view base sources owned layers s h c (layer.Sort key descending) is refl
    step_shows layers s h c (layer.Uniq key most invert) is = table_steps_show v view base sources owned layers s h c (layer.Uniq key most invert) is refl

    action_shows : (layers : List HeldLayer) (s : State) → StateShows v layers s → (c : Command) (a : Action) → c.action ≡ a → ActionShows v base layers sources s c a
    action_shows layers s h c (action.Write to standard form) is = output_steps_show v view base seen sources layers s h c to standard form is
    action_shows layers s h c (action.Each a) is = step_shows layers s h c a is
    action_shows layers s h c (action.Together a) is = joint_shows layers s h c a is

    commands_show : (cs : List Command) (layers : List HeldLayer) (s : State) → StateShows v layers s → CommandsShow v base sources layers s cs
    commands_show [] layers s h = tt
    commands_show (c ∷ cs) layers s h = (action_shows layers s h c c.action refl, λ after t leads shown. commands_show cs after t shown)

pub each_step : EachStepShows
each_step v view base seen sources owned = step_shows v view base seen sources owned

pub joint_step : EachJointStepShows
joint_step v view base seen sources = joint_shows v view base seen sources

pub all_commands : AllCommandsShow
all_commands v view base seen sources owned = commands_show v view base seen sources owned
