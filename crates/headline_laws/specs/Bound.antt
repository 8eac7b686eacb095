-- The law of commands in order: where each of them shows that of the state, the answer of all binds what is there
-- afterwards.
use Rattle.std.specs.Prelude.{◌≡◌, List, Ok}
use Rattle.io_core.specs.Contents.{Content, FileMap}
use Rattle.job_terms.specs.declared.job.Chain.{Chain}
use Rattle.job_terms.specs.declared.job.Job.TheVariants as job
use Rattle.run_sources.specs.Sources.{SourcesSeen}
use Rattle.run_state.specs.Origins.{Base}
use Rattle.run_state.specs.declared.state.HeldLayer.{HeldLayer}
use Rattle.run_outcome.specs.declared.outcome.Outcome.{Outcome}
use Rattle.run_chain.specs.Effects.{OutsideSeen}
use Rattle.run_chain.specs.Running.{CommandsRun}
use Rattle.word_model.specs.Words.{words_say}
use Rattle.chain_model.specs.Headline.{Binds}
use Rattle.chain_model.specs.Running.{Begun, begins}
use Rattle.chain_model.specs.Sources.{Readings}
use Rattle.layer_laws.specs.Shown.{View, IsView, StateShows, plane_of}
use Rattle.headline_laws.specs.Outcomes.{outcome_as}
use Rattle.headline_laws.specs.Refused.{outside_of}
use Rattle.headline_laws.specs.Ends.{IsAsked}
use Rattle.headline_laws.specs.ChainSteps.{CommandsShow, EachHasText}

-- what begins by the model, over the plane of a view, with the places of the run and the commands of the chain; the
-- layers show its state
pub record BeginsSeen (c : Chain) (v : View) (base : Base) (layers : List HeldLayer) (b : Begun) : Type 0 where
  pub is_view : IsView v
  pub plane : b.plane ≡ plane_of v
  pub places : b.places ≡ base.places
  pub commands : b.commands ≡ c.commands
  pub state : StateShows v layers b.state

abbrev pub CommandsAreBound : Type 0
CommandsAreBound = (read : Readings) (line : List Content) (c : Chain) (seen : SourcesSeen) (files : FileMap) (bytes : Content) → IsAsked read line (job.Chain c) seen files bytes →
    (b : Begun) → begins read c files bytes ≡ Ok b → (v : View) (base : Base) (layers : List HeldLayer) → BeginsSeen c v base layers b → CommandsShow v base b.sources layers b.state c.commands → EachHasText v base →
    (before after : OutsideSeen) (o : Outcome) → CommandsRun base 0 layers c.commands before after o → Binds read (words_say read.refusals line) files bytes (outside_of before) (outside_of after) (outcome_as o)
