-- The run of words over contents: its outcome and its outputs in order, where the outside does not fail and memory
-- lasts.
use Rattle.std.specs.Prelude.{◌≡◌, ℕ, ◌+◌, nat_lt, List, [], ◌∷◌, ◌++◌, Option, Some, None, Result, Ok, Err, if◌then◌else◌}
use Rattle.std.specs.List.{AllZip}
use Rattle.lists.specs.Lists.{joined_up}
use Rattle.plane_model.specs.Arrangement.{IsArrangement}
use Rattle.plane_model.specs.Drawing.{Drawing}
use Rattle.plane_model.specs.Snapped.{snapped, link_count}
use Rattle.io_core.specs.Contents.{Content, FileMap}
use Rattle.geojson_io.specs.LayerContent.{LayerContent}
use Rattle.table_terms.specs.Names.{Text}
use Rattle.table_terms.specs.Refusals.{on_ok}
use Rattle.cmd_words.specs.Tells.{FitsJob}
use Rattle.cmd_words.specs.Words.{JobWords, Reading}
use Rattle.job_terms.specs.declared.job.Chain.{Chain}
use Rattle.job_terms.specs.declared.job.Command.{Command}
use Rattle.job_terms.specs.declared.job.Job.{Job}
use Rattle.job_terms.specs.declared.job.Job.TheVariants as job
use Rattle.region_model.specs.Answers.{Answers, AreRight, Plane, plane_of}
use Rattle.synth_model.specs.Cells.{cells}
use Rattle.chain_model.specs.Outcome.{Outcome, done, bad_words, too_dense, refused}
use Rattle.chain_model.specs.State.{State}
use Rattle.chain_model.specs.Targets.{SourceLayers}
use Rattle.chain_model.specs.Steps.{Written, step}
use Rattle.chain_model.specs.Sources.{AreReadings, Readings, imported, whole_room}
use Rattle.chain_model.specs.Beginning.{command_layers, drawing_of, first_sources, import_layers, first_state}
use Rattle.chain_model.specs.Pictures.{IsTextOf}
use Rattle.chain_model.specs.Synth.{IsSynthLine}
use Rattle.word_model.specs.Words.{words_say}

-- ---- the commands

-- an output, and the number of its command, from 1
pub record Output : Type 0 where
  pub command : ℕ
  pub written : Written

abbrev pub output_of : ℕ → Option Written → List Output
output_of n None = []
output_of n (Some w) = record { command = n; written = w } ∷ []

-- the commands from number n on: the outputs up to the first refusal, and the end
abbrev pub run_from : Plane → Answers → SourceLayers → ℕ → State → List Command → List Output × Outcome
run_from P A sources n s [] = ([], done)
run_from P A sources n s (c ∷ rest) = elim (step P A sources s c) [
  | Err why ↦ ([], refused n why)
  | Ok next ↦ (output_of n next.written ++ (run_from P A sources (n + 1) next.state rest).0, (run_from P A sources (n + 1) next.state rest).1)
]

-- ---- what comes before them

-- what a run has when its commands begin
pub record Begun : Type 0 where
  pub places : ℕ
  pub plane : Plane
  pub sources : SourceLayers
  pub state : State
  pub commands : List Command

-- the most links that the snapped paths of a run may have, repeats counted
abbrev pub link_limit : ℕ
link_limit = 8000000

abbrev pub checked_density : Drawing → Result Drawing Outcome
checked_density d = if nat_lt link_limit (link_count (snapped d)) then Err (too_dense (link_count (snapped d))) else Ok d

abbrev pub begun_with : Chain → List (List LayerContent) → Plane → Begun
begun_with c sources P =
    let begun : SourceLayers = first_sources P [] sources in
    record { places = c.places; plane = P; sources = command_layers c.sources begun; state = first_state (import_layers c.sources begun); commands = c.commands }

-- the sources are read, then their drawing is snapped
abbrev pub begins : Readings → Chain → FileMap → Content → Result Begun Outcome
begins read c files input =
    on_ok (imported read c.places files input 0 whole_room 1 c.sources) (λ (sources : List (List LayerContent)).
    on_ok (checked_density (drawing_of (joined_up sources) c.boxes)) (λ (d : Drawing). Ok (begun_with c sources (plane_of d))))

-- ---- outputs as effects

-- a text that a command gives to the file of a name, or to the standard stream
pub record Effect : Type 0 where
  pub command : ℕ
  pub to : Option Text
  pub text : Text

abbrev pub file_of : Written → Option Text
file_of w = if w.standard then None else Some w.to

pub record IsEffectOf (b : Begun) (A : Answers) (o : Output) (e : Effect) : Type 0 where
  pub command : e.command ≡ o.command
  pub to : e.to ≡ file_of o.written
  pub text : IsTextOf b.plane A b.places o.written e.text

-- the commands run by the right answers of the plane, whose links meet at their ends alone
pub record Runs (b : Begun) (outcome : Outcome) (effects : List Effect) : Type 0 where
  pub answers : Answers
  pub right : AreRight b.plane answers
  pub links_meet_at_ends : IsArrangement b.plane.links
  pub ends : outcome ≡ (run_from b.plane answers b.sources 1 b.state b.commands).1
  pub gives : AllZip (IsEffectOf b answers) (run_from b.plane answers b.sources 1 b.state b.commands).0 effects

-- a run that ends before it writes
abbrev pub Stops : Outcome → Outcome → List Effect → Type 0
Stops o outcome effects = (outcome ≡ o) × (effects ≡ [])

abbrev pub RunsOrStops : Result Begun Outcome → Outcome → List Effect → Type 0
RunsOrStops (Err o) outcome effects = Stops o outcome effects
RunsOrStops (Ok b) outcome effects = Runs b outcome effects

-- ---- synth

-- one line for the standard stream
pub record Synthesizes (d : Drawing) (n : ℕ) (outcome : Outcome) (effects : List Effect) : Type 0 where
  pub answers : Answers
  pub right : AreRight (plane_of d) answers
  pub line : Text
  pub is_line : IsSynthLine (plane_of d) answers n line
  pub ends : outcome ≡ done
  pub gives : effects ≡ record { command = 1; to = None; text = line } ∷ []

abbrev pub SynthesizesOrStops : Result Drawing Outcome → ℕ → Outcome → List Effect → Type 0
SynthesizesOrStops (Err o) n outcome effects = Stops o outcome effects
SynthesizesOrStops (Ok d) n outcome effects = Synthesizes d n outcome effects

-- ---- the whole run

abbrev pub JobTells : Readings → FileMap → Content → Job → Outcome → List Effect → Type 0
JobTells read files input (job.Synth seed n) outcome effects = SynthesizesOrStops (checked_density (cells seed n)) n outcome effects
JobTells read files input (job.Chain c) outcome effects = RunsOrStops (begins read c files input) outcome effects

-- refused words stop the run; else it is that of a job which the words say, with the trees of their expressions
abbrev pub WordsTell : Readings → FileMap → Content → Reading JobWords → Outcome → List Effect → Type 0
WordsTell read files input (Err e) outcome effects = Stops (bad_words e.0 e.1) outcome effects
WordsTell read files input (Ok w) outcome effects = (j : Job) × FitsJob w j × JobTells read files input j outcome effects

-- The words and contents tell this outcome and these effects.
abbrev pub Tells : Readings → List Text → FileMap → Content → Outcome → List Effect → Type 0
Tells read words files input outcome effects = WordsTell read files input (words_say read.refusals words) outcome effects

-- ---- laws: words and contents tell some outcome, and no other

abbrev pub EachRunTells : Type 0
EachRunTells = (read : Readings) → AreReadings read → (words : List Text) (files : FileMap) (input : Content) → (outcome : Outcome) × (effects : List Effect) × Tells read words files input outcome effects

abbrev pub OutcomeIsOne : Type 0
OutcomeIsOne = (read other : Readings) → AreReadings read → AreReadings other → (words : List Text) (files : FileMap) (input : Content) (o o' : Outcome) (es es' : List Effect) →
    Tells read words files input o es → Tells other words files input o' es' → o ≡ o'
