-- Laws of steps: the state after a command on the tables of its layers, and why it is refused.
use Rattle.std.specs.Prelude.{◌≡◌, Bool, true, false, List, Some, None, Ok, Err}
use Rattle.job_terms.specs.declared.job.Action.TheVariants as does
use Rattle.job_terms.specs.declared.job.Command.{Command}
use Rattle.job_terms.specs.declared.job.JointAction.{JointAction}
use Rattle.job_terms.specs.declared.job.JointAction.TheVariants as joint
use Rattle.job_terms.specs.declared.job.LayerAction.{LayerAction}
use Rattle.job_terms.specs.declared.job.LayerAction.TheVariants as action
use Rattle.run_state.specs.Origins.{Base}
use Rattle.run_state.specs.declared.refusal.RefuseWhy.{RefuseWhy}
use Rattle.run_state.specs.declared.state.HeldLayer.{HeldLayer}
use Rattle.run_steps.specs.Commands.{ChangesEach, ChangesTogether}
use Rattle.run_steps.specs.Refusals.{RefusesEach, refusal_together}
use Rattle.chain_model.specs.State.{State}
use Rattle.chain_model.specs.Steps.{step}
use Rattle.chain_model.specs.Targets.{SourceLayers}
use Rattle.layer_laws.specs.Shown.{View, IsView, SourcesShow, StateShows, plane_of}
use Rattle.layer_laws.specs.Reasons.{why_of}

-- the state's step gives a state that these layers show
abbrev pub StepGives : View → SourceLayers → State → Command → List HeldLayer → Type 0
StepGives v sources s c after = (t : State) × (step (plane_of v) v.answers sources s c ≡ Ok (record { state = t; written = None })) × StateShows v after t

-- or is refused for the reason that the run has
abbrev pub StepRefuses : View → SourceLayers → State → Command → RefuseWhy → Type 0
StepRefuses v sources s c why = step (plane_of v) v.answers sources s c ≡ Err (why_of why)

-- a command that changes each layer of its target shows that of the state: so is the state after it, and both refuse
-- for the same reason
pub record StepShows (v : View) (base : Base) (layers : List HeldLayer) (sources : SourceLayers) (s : State) (c : Command) (a : LayerAction) : Type 0 where
  pub goes : RefusesEach base layers c a None → (after : List HeldLayer) → ChangesEach base c a layers after → StepGives v sources s c after
  pub refused : (why : RefuseWhy) → RefusesEach base layers c a (Some why) → StepRefuses v sources s c why

-- so does one that takes the layers of its target together
pub record JointShows (v : View) (base : Base) (layers : List HeldLayer) (sources : SourceLayers) (s : State) (c : Command) (a : JointAction) : Type 0 where
  pub goes : refusal_together layers c a ≡ None → (after : List HeldLayer) → ChangesTogether base c a layers after → StepGives v sources s c after
  pub refused : (why : RefuseWhy) → refusal_together layers c a ≡ Some why → StepRefuses v sources s c why

-- the command works on rows and columns
abbrev pub is_on_tables : LayerAction → Bool
is_on_tables (action.Join from spec) = true
is_on_tables (action.Filter test invert remove_empty) = true
is_on_tables (action.FilterFields fields) = true
is_on_tables (action.RenameFields pairs) = true
is_on_tables (action.Split field) = true
is_on_tables (action.Each assigns) = true
is_on_tables (action.Sort key descending) = true
is_on_tables (action.Uniq key most invert) = true
is_on_tables _ = false

abbrev pub TableStepsShow : Type 0
TableStepsShow = (v : View) → IsView v → (base : Base) (sources : SourceLayers) → SourcesShow v base.sources sources → (layers : List HeldLayer) (s : State) → StateShows v layers s →
    (c : Command) (a : LayerAction) → c.action ≡ does.Each a → is_on_tables a ≡ true → StepShows v base layers sources s c a

-- a command that merges the layers of its target
abbrev pub MergeStepsShow : Type 0
MergeStepsShow = (v : View) (base : Base) (sources : SourceLayers) (layers : List HeldLayer) (s : State) → StateShows v layers s → (c : Command) (force : Bool) → c.action ≡ does.Together (joint.MergeLayers force) →
    JointShows v base layers sources s c (joint.MergeLayers force)
