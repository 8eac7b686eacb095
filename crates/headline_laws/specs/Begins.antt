-- The law of chains whose commands begin: the layers of the run show those of the state of the model.
use Rattle.std.specs.Prelude.{◌≡◌, List, Ok}
use Rattle.io_core.specs.Contents.{Content, FileMap}
use Rattle.job_terms.specs.declared.job.Chain.{Chain}
use Rattle.job_terms.specs.declared.job.Job.TheVariants as job
use Rattle.run_sources.specs.Sources.{SourcesSeen}
use Rattle.run_plane.specs.declared.layer.Layer.{Layer}
use Rattle.run_state.specs.Origins.{Base}
use Rattle.run_state.specs.Targets.{first_layers}
use Rattle.run_outcome.specs.declared.outcome.Outcome.{Outcome}
use Rattle.run_chain.specs.Effects.{OutsideSeen}
use Rattle.run_chain.specs.Running.{RunsCommands}
use Rattle.region_model.specs.Answers as model
use Rattle.chain_model.specs.Running.{Begun, begins}
use Rattle.chain_model.specs.Sources.{Readings}
use Rattle.layer_laws.specs.Shown.{View, IsSeenIn, IsView, SourcesShow, StateShows, plane_of}
use Rattle.headline_laws.specs.Ends.{IsAsked}

-- what begins by the model is shown by these layers and by those of the sources that commands take, all over one plane
pub record BegunShows (c : Chain) (layers : List Layer) (base : Base) (b : Begun) : Type 0 where
  pub view : View
  pub is_view : IsView view
  pub seen : IsSeenIn view base.plane
  -- the plane of the model is that of the drawing of the view, and its arcs are those of the view
  pub plane : b.plane ≡ model.plane_of view.drawing
  pub of_view : b.plane ≡ plane_of view
  pub state : StateShows view (first_layers layers) b.state
  pub sources : SourcesShow view base.sources b.sources
  pub places : b.places ≡ base.places
  pub commands : b.commands ≡ c.commands

-- ---- law: where the commands of a chain begin, they do so in the model, and show it
abbrev pub ChainsBegin : Type 0
ChainsBegin = (read : Readings) (line : List Content) (c : Chain) (seen : SourcesSeen) (files : FileMap) (bytes : Content) → IsAsked read line (job.Chain c) seen files bytes →
    (before after : OutsideSeen) (o : Outcome) → (run : RunsCommands c seen before after o) → (b : Begun) × (begins read c files bytes ≡ Ok b) × BegunShows c run.begun run.base b
