-- Chains that fit the same words begin alike, and end in one way.
use Rattle.std.proofs.Common.{◌≡◌, refl, sym, ap, ◌∙◌, ℕ, ◌+◌, List, [], ◌∷◌, ◌++◌, Result, Ok, Err}
use Rattle.lists.specs.Lists.{joined_up}
use Rattle.plane_model.specs.Drawing.{Drawing}
use Rattle.io_core.specs.Contents.{Content, FileMap}
use Rattle.geojson_io.specs.LayerContent.{LayerContent}
use Rattle.table_terms.specs.Refusals.{on_ok}
use Rattle.cmd_words.specs.ActionWords.{FitEach}
use Rattle.cmd_words.specs.Tells.{FitsChain}
use Rattle.cmd_words.specs.Words.{ChainWords}
use Rattle.cmd_words.specs.declared.action_words.CommandWords.{CommandWords}
use Rattle.job_terms.specs.declared.job.Chain.{Chain}
use Rattle.job_terms.specs.declared.job.Command.{Command}
use Rattle.region_model.specs.Answers.{Answers, Plane, plane_of}
use Rattle.chain_model.specs.Beginning.{drawing_of}
use Rattle.chain_model.specs.Outcome as model
use Rattle.chain_model.specs.Running.{Begun, Output, begins, begun_with, checked_density, output_of, run_from}
use Rattle.chain_model.specs.Sources.{Readings, imported, whole_room}
use Rattle.chain_model.specs.State.{State}
use Rattle.chain_model.specs.Steps.{Stepped, step}
use Rattle.chain_model.specs.Targets.{SourceLayers}
use Rattle.headline_laws.proofs.OneStep.{one_step_each}

-- ## Commands

module _ (P : Plane) (A : Answers) (sources : SourceLayers) where
  abbrev on_step : (ℕ → State → List Output × model.Outcome) → ℕ → Result Stepped model.RefuseWhy → List Output × model.Outcome
  on_step further n r = elim r [
    | Err why ↦ ([], model.refused n why)
    | Ok next ↦ (output_of n next.written ++ (further (n + 1) next.state).0, (further (n + 1) next.state).1)
  ]

  further : (f g : ℕ → State → List Output × model.Outcome) → ((k : ℕ) (t : State) → f k t ≡ g k t) → (n : ℕ) (r : Result Stepped model.RefuseWhy) → on_step f n r ≡ on_step g n r
  further f g one n (Err why) = refl
  further f g one n (Ok next) = ap (λ (told : List Output × model.Outcome). (output_of n next.written ++ told.0, told.1)) (one (n + 1) next.state)

  pub one_run : (ws : List CommandWords) (cs ds : List Command) → FitEach ws cs → FitEach ws ds → (n : ℕ) (s : State) → run_from P A sources n s cs ≡ run_from P A sources n s ds
  one_run [] [] [] f g n s = refl
  one_run [] [] (d ∷ ds) f g n s = absurd g
  one_run [] (c ∷ cs) ds f g n s = absurd f
  one_run (w ∷ ws) [] ds f g n s = absurd f
  one_run (w ∷ ws) (c ∷ cs) [] f g n s = absurd g
  one_run (w ∷ ws) (c ∷ cs) (d ∷ ds) f g n s =
      ap (on_step (λ k t. run_from P A sources k t cs) n) (one_step_each w c d f.0 g.0 P A sources s)
      ∙ further (λ k t. run_from P A sources k t cs) (λ k t. run_from P A sources k t ds) (λ k t. one_run ws cs ds f.1 g.1 k t) n (step P A sources s d)

-- ## Chains

-- what begins, with other commands
abbrev pub with_commands : List Command → Result Begun model.Outcome → Result Begun model.Outcome
with_commands cs (Ok b) = Ok (record b { commands = cs })
with_commands cs (Err o) = Err o

abbrev pub commanded : Chain → List Command → Chain
commanded c cs = record { places = c.places; sources = c.sources; boxes = c.boxes; commands = cs }

module _ (read : Readings) (c : Chain) (files : FileMap) (bytes : Content) (cs : List Command) where
  drawn : (given : List (List LayerContent)) (r : Result Drawing model.Outcome) → on_ok r (λ (d : Drawing). Ok (begun_with (commanded c cs) given (plane_of d))) ≡ with_commands cs (on_ok r (λ (d : Drawing). Ok (begun_with c given (plane_of d))))
  drawn given (Err o) = refl
  drawn given (Ok d) = refl

  given_by : (r : Result (List (List LayerContent)) model.Outcome) →
      on_ok r (λ (sources : List (List LayerContent)). on_ok (checked_density (drawing_of (joined_up sources) c.boxes)) (λ (d : Drawing). Ok (begun_with (commanded c cs) sources (plane_of d))))
      ≡ with_commands cs (on_ok r (λ (sources : List (List LayerContent)). on_ok (checked_density (drawing_of (joined_up sources) c.boxes)) (λ (d : Drawing). Ok (begun_with c sources (plane_of d)))))
  given_by (Err o) = refl
  given_by (Ok given) = drawn given (checked_density (drawing_of (joined_up given) c.boxes))

  begins_commanded : begins read (commanded c cs) files bytes ≡ with_commands cs (begins read c files bytes)
  begins_commanded = given_by (imported read c.places files bytes 0 whole_room 1 c.sources)

as_worded : (w : ChainWords) (c d : Chain) → FitsChain w c → FitsChain w d → d ≡ commanded c d.commands
as_worded w c d f g = λ i. record { places = (g.places ∙ sym f.places) i; sources = (g.sources ∙ sym f.sources) i; boxes = (g.boxes ∙ sym f.boxes) i; commands = d.commands }

-- a chain of the same words begins with its own commands alike
pub begins_alike : (read : Readings) (w : ChainWords) (c d : Chain) → FitsChain w c → FitsChain w d → (files : FileMap) (bytes : Content) → begins read d files bytes ≡ with_commands d.commands (begins read c files bytes)
begins_alike read w c d f g files bytes = ap (λ (x : Chain). begins read x files bytes) (as_worded w c d f g) ∙ begins_commanded read c files bytes d.commands
