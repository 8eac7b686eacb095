-- Commands in order, each of which shows that of the state.
use Rattle.std.specs.Prelude.{◌≡◌, Bool, ⊤, List, [], ◌∷◌, Some, None, Ok}
use Rattle.io_core.specs.Contents.{Content}
use Rattle.table_terms.specs.Names.{Text}
use Rattle.job_terms.specs.declared.job.Action.{Action}
use Rattle.job_terms.specs.declared.job.Action.TheVariants as action
use Rattle.job_terms.specs.declared.job.Command.{Command}
use Rattle.job_terms.specs.declared.job.OutForm.{OutForm}
use Rattle.run_state.specs.Origins.{Base}
use Rattle.run_state.specs.Targets.{targets}
use Rattle.run_state.specs.declared.refusal.RefuseWhy.{RefuseWhy}
use Rattle.run_state.specs.declared.state.HeldLayer.{HeldLayer}
use Rattle.run_texts.specs.Written.{OutputSays, refused_output}
use Rattle.run_chain.specs.Effects.{OutsideSeen}
use Rattle.run_chain.specs.Running.{Passes}
use Rattle.chain_model.specs.Pictures.{IsTextOf}
use Rattle.chain_model.specs.State.{State}
use Rattle.chain_model.specs.Steps.{Written, step}
use Rattle.chain_model.specs.Targets.{SourceLayers}
use Rattle.layer_laws.specs.Shown.{View, StateShows, plane_of}
use Rattle.state_laws.specs.Steps.{JointShows, StepRefuses, StepShows}

-- ---- one command

-- an output goes to the same place, and what it says is a text of what the state's step writes
pub record WriteGives (v : View) (base : Base) (layers : List HeldLayer) (sources : SourceLayers) (s : State) (c : Command) (to : Text) (standard : Bool) (form : OutForm) : Type 0 where
  pub written : Written
  pub gives : step (plane_of v) v.answers sources s c ≡ Ok (record { state = s; written = Some written })
  pub to_there : written.to ≡ to
  pub to_stream : written.standard ≡ standard
  pub text : (text : Content) → OutputSays base form (targets c.target layers) text → IsTextOf (plane_of v) v.answers base.places written text

-- or it is refused for the same reason
pub record WriteShows (v : View) (base : Base) (layers : List HeldLayer) (sources : SourceLayers) (s : State) (c : Command) (to : Text) (standard : Bool) (form : OutForm) : Type 0 where
  pub goes : refused_output c.target form layers ≡ None → WriteGives v base layers sources s c to standard form
  pub refused : (why : RefuseWhy) → refused_output c.target form layers ≡ Some why → StepRefuses v sources s c why

-- what a command does to layers shows what the state's step does, and both refuse for the same reason
abbrev pub ActionShows : View → Base → List HeldLayer → SourceLayers → State → Command → Action → Type 0
ActionShows v base layers sources s c (action.Write to standard form) = WriteShows v base layers sources s c to standard form
ActionShows v base layers sources s c (action.Each a) = StepShows v base layers sources s c a
ActionShows v base layers sources s c (action.Together a) = JointShows v base layers sources s c a

-- ---- all of them

-- the command isn't refused, and leaves these layers
abbrev pub LeadsTo : Base → Command → List HeldLayer → List HeldLayer → Type 0
LeadsTo base c layers after = (seen seen' : OutsideSeen) × Passes base c layers after seen seen'

-- each does, over whatever layers those before it lead to
abbrev pub CommandsShow : View → Base → SourceLayers → List HeldLayer → State → List Command → Type 0
CommandsShow v base sources layers s [] = ⊤
CommandsShow v base sources layers s (c ∷ cs) = ActionShows v base layers sources s c c.action
    × ((after : List HeldLayer) (t : State) → LeadsTo base c layers after → StateShows v after t → CommandsShow v base sources after t cs)

-- ---- texts

-- whatever is written, there is a text of it
abbrev pub EachHasText : View → Base → Type 0
EachHasText v base = (w : Written) → (text : Text) × IsTextOf (plane_of v) v.answers base.places w text
