-- Words and contents tell one outcome.
use Rattle.std.proofs.Common.{◌≡◌, refl, sym, ap, ◌∙◌, subst, subst₂, ℕ, List, [], ◌∷◌, None, Result, Ok, Err}
use Rattle.std.specs.List.{AllZip}
use Rattle.plane_model.specs.Drawing.{Drawing}
use Rattle.io_core.specs.Contents.{Content, FileMap}
use Rattle.table_terms.specs.Names.{Text}
use Rattle.cmd_words.specs.ActionWords.{FitEach}
use Rattle.cmd_words.specs.Tells.{FitsChain, FitsJob}
use Rattle.cmd_words.specs.Words.{ChainWords, JobWords, Reading, chain, synth}
use Rattle.cmd_words.specs.declared.action_words.CommandWords.{CommandWords}
use Rattle.job_terms.specs.declared.job.Chain.{Chain}
use Rattle.job_terms.specs.declared.job.Command.{Command}
use Rattle.job_terms.specs.declared.job.Job.{Job}
use Rattle.job_terms.specs.declared.job.Job.TheVariants as job
use Rattle.region_model.specs.Answers.{Answers, AreRight}
use Rattle.synth_model.specs.Cells.{cells}
use Rattle.chain_model.specs.Outcome.{Outcome, bad_words}
use Rattle.chain_model.specs.Running.{Begun, Effect, IsEffectOf, JobTells, Output, OutcomeIsOne, Runs, RunsOrStops, Stops, SynthesizesOrStops, Tells, WordsTell, begins, checked_density, run_from}
use Rattle.chain_model.specs.Sources.{AreReadings, Readings}
use Rattle.word_model.specs.Words.{words_say}
use Rattle.headline_laws.proofs.OneRun.{begins_alike, one_run, with_commands}
use Rattle.outcome_laws.specs.Laws.{EffectsGoAlike, GoAlike, OneRunOfRightAnswers}
use Rattle.outcome_laws.proofs.Alike.{alike}
use Rattle.outcome_laws.proofs.Beginnings.{BegunIsOn, IsOnPlane, begins_on}
use Rattle.outcome_laws.proofs.OneReading.{readings_are_one}
use Rattle.outcome_laws.proofs.Running.{run_same}

-- ## By right answers there is one run

run_one : (b : Begun) → IsOnPlane b → (A B : Answers) → AreRight b.plane A → AreRight b.plane B → (cs : List Command) → run_from b.plane A b.sources 1 b.state cs ≡ run_from b.plane B b.sources 1 b.state cs
run_one b on A B right right' cs = run_same b.plane A B on.walked (alike b.plane A B on.walked right right') b.sources on.sources cs 1 b.state on.state

pub one_run_of_right_answers : OneRunOfRightAnswers
one_run_of_right_answers read c files input b e A B right right' = run_one b (subst BegunIsOn e (begins_on read c files input)) A B right right' b.commands

-- ## Ends that are one

record OneEnd (o o' : Outcome) (es es' : List Effect) : Type 0 where
  ends : o ≡ o'
  effects : AllZip GoAlike es es'

-- two lists of effects that are such, the one and the other
told_alike : (xs ys es es' : List Effect) → es ≡ xs → es' ≡ ys → AllZip GoAlike xs ys → AllZip GoAlike es es'
told_alike xs ys es es' p q h = subst (λ (zs : List Effect). AllZip GoAlike zs es') (sym p) (subst (λ (zs : List Effect). AllZip GoAlike xs zs) (sym q) h)

stopped : (e o o' : Outcome) (es es' : List Effect) → Stops e o es → Stops e o' es' → OneEnd o o' es es'
stopped e o o' es es' t u = record { ends = t.0 ∙ sym u.0; effects = told_alike [] [] es es' t.1 u.1 tt }

-- effects of the same outputs
outputs_alike : (b c : Begun) (A B : Answers) (outs : List Output) (es es' : List Effect) → AllZip (IsEffectOf b A) outs es → AllZip (IsEffectOf c B) outs es' → AllZip GoAlike es es'
outputs_alike b c A B [] [] [] h g = tt
outputs_alike b c A B [] [] (e' ∷ es') h g = absurd g
outputs_alike b c A B [] (e ∷ es) es' h g = absurd h
outputs_alike b c A B (x ∷ outs) [] es' h g = absurd h
outputs_alike b c A B (x ∷ outs) (e ∷ es) [] h g = absurd g
outputs_alike b c A B (x ∷ outs) (e ∷ es) (e' ∷ es') h g = ((h.0.command ∙ sym g.0.command, h.0.to ∙ sym g.0.to), outputs_alike b c A B outs es es' h.1 g.1)

-- ## A made-up mosaic

synth_ends : (r : Result Drawing Outcome) (n : ℕ) (o o' : Outcome) (es es' : List Effect) → SynthesizesOrStops r n o es → SynthesizesOrStops r n o' es' → OneEnd o o' es es'
synth_ends (Err e) n o o' es es' t u = stopped e o o' es es' t u
synth_ends (Ok d) n o o' es es' t u = record { ends = t.ends ∙ sym u.ends; effects = told_alike (line t.line) (line u.line) es es' t.gives u.gives ((refl, refl), tt) }
  where
    line : Text → List Effect
    line text = record { command = 1; to = None; text = text } ∷ []

-- ## Chains of the same words

module _ (ws : List CommandWords) (cs ds : List Command) (fit : FitEach ws cs) (fit' : FitEach ws ds) (o o' : Outcome) (es es' : List Effect) where
  abbrev with_these : Begun → List Command → Begun
  with_these b commands = record b { commands = commands }

  runs_end : (b : Begun) → IsOnPlane b → Runs (with_these b cs) o es → Runs (with_these b ds) o' es' → OneEnd o o' es es'
  runs_end b on t u =
      let one : run_from b.plane t.answers b.sources 1 b.state cs ≡ run_from b.plane u.answers b.sources 1 b.state ds = run_one b on t.answers u.answers t.right u.right cs ∙ one_run b.plane u.answers b.sources ws cs ds fit fit' 1 b.state in
      record {
        ends = t.ends ∙ ap (λ (r : List Output × Outcome). r.1) one ∙ sym u.ends;
        effects = outputs_alike (with_these b cs) (with_these b ds) t.answers u.answers (run_from b.plane u.answers b.sources 1 b.state ds).0 es es'
            (subst (λ (r : List Output × Outcome). AllZip (IsEffectOf (with_these b cs) t.answers) r.0 es) one t.gives) u.gives;
      }

  begun_ends : (r : Result Begun Outcome) → BegunIsOn r → RunsOrStops (with_commands cs r) o es → RunsOrStops (with_commands ds r) o' es' → OneEnd o o' es es'
  begun_ends (Err e) on t u = stopped e o o' es es' t u
  begun_ends (Ok b) on t u = runs_end b on t u

-- ## Jobs of the same words

module _ (read : Readings) (files : FileMap) (input : Content) (o o' : Outcome) (es es' : List Effect) where
  chains_end : (w : ChainWords) (c d : Chain) → FitsChain w c → FitsChain w d → RunsOrStops (begins read c files input) o es → RunsOrStops (begins read d files input) o' es' → OneEnd o o' es es'
  chains_end w c d fit fit' t u =
      begun_ends w.so_far.commands c.commands d.commands fit.commands fit'.commands o o' es es' (begins read c files input) (begins_on read c files input)
      (subst (λ (r : Result Begun Outcome). RunsOrStops r o es) (begins_alike read w c c fit fit files input) t)
      (subst (λ (r : Result Begun Outcome). RunsOrStops r o' es') (begins_alike read w c d fit fit' files input) u)

  jobs_end : (w : JobWords) (j k : Job) → FitsJob w j → FitsJob w k → JobTells read files input j o es → JobTells read files input k o' es' → OneEnd o o' es es'
  jobs_end (synth seed size) (job.Synth s n) (job.Synth s' n') fit fit' t u =
      synth_ends (checked_density (cells s n)) n o o' es es' t
      (subst₂ (λ (a b : ℕ). SynthesizesOrStops (checked_density (cells a b)) b o' es') (fit'.0 ∙ sym fit.0) (fit'.1 ∙ sym fit.1) u)
  jobs_end (synth seed size) (job.Synth s n) (job.Chain d) fit fit' t u = absurd fit'
  jobs_end (synth seed size) (job.Chain c) k fit fit' t u = absurd fit
  jobs_end (chain w) (job.Synth s n) k fit fit' t u = absurd fit
  jobs_end (chain w) (job.Chain c) (job.Synth s n) fit fit' t u = absurd fit'
  jobs_end (chain w) (job.Chain c) (job.Chain d) fit fit' t u = chains_end w c d fit fit' t u

  words_end : (w : Reading JobWords) → WordsTell read files input w o es → WordsTell read files input w o' es' → OneEnd o o' es es'
  words_end (Err e) t u = stopped (bad_words e.0 e.1) o o' es es' t u
  words_end (Ok w) t u = jobs_end w t.0 u.0 t.1 u.1 t.2 u.2

one_end : (read other : Readings) → AreReadings read → AreReadings other → (words : List Text) (files : FileMap) (input : Content) (o o' : Outcome) (es es' : List Effect) →
    Tells read words files input o es → Tells other words files input o' es' → OneEnd o o' es es'
one_end read other right right' words files input o o' es es' t u =
    words_end read files input o o' es es' (words_say read.refusals words) t
    (subst (λ (r : Readings). Tells r words files input o' es') (sym (readings_are_one read other right right')) u)

pub outcome_is_one : OutcomeIsOne
outcome_is_one read other right right' words files input o o' es es' t u = (one_end read other right right' words files input o o' es es' t u).ends

pub effects_go_alike : EffectsGoAlike
effects_go_alike read other right right' words files input o o' es es' t u = (one_end read other right right' words files input o o' es es' t u).effects
