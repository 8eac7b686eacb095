-- Where the words and contents tell Done, and nothing failed, the answer is Done, or want of memory.
use Rattle.std.proofs.Common.{◌≡◌, ◌⊎◌, inl, inr, sym, ap, ◌∙◌, subst, ℕ, List, Result, Ok, Err}
use Rattle.std.specs.Io.KnownBytes.{Appends}
use Rattle.plane_model.specs.Drawing.{Drawing}
use Rattle.io_core.specs.Contents.{Content, FileMap}
use Rattle.io_core.specs.Counts.{Rose}
use Rattle.synth_model.specs.Cells.{cells}
use Rattle.snap_round.specs.Snapping.{FaultMeans}
use Rattle.snap_round.specs.declared.fault.SnapFault.{SnapFault}
use Rattle.snap_round.specs.declared.fault.SnapFault.TheVariants as snap
use Rattle.cmd_words.specs.Tells.{FitsChain, FitsJob}
use Rattle.cmd_words.specs.Words.{ChainWords, JobWords, Reading, synth, chain}
use Rattle.cmd_words.specs.declared.fault.WordFault.{WordFault}
use Rattle.cmd_words.specs.declared.fault.WordFault.TheVariants as words
use Rattle.job_terms.specs.declared.job.Chain.{Chain}
use Rattle.job_terms.specs.declared.job.Job.{Job}
use Rattle.job_terms.specs.declared.job.Job.TheVariants as job
use Rattle.run_sources.specs.Sources.{SourcesSeen}
use Rattle.run_sources.specs.declared.fault.SourceFault.{SourceFault}
use Rattle.run_sources.specs.declared.fault.SourceFault.TheVariants as fault
use Rattle.run_state.specs.Targets.{first_layers}
use Rattle.run_outcome.specs.Ends.{of_drawing, of_sources}
use Rattle.run_outcome.specs.Telling.{AddsFront}
use Rattle.run_outcome.specs.declared.outcome.Outcome.{Outcome}
use Rattle.run_outcome.specs.declared.outcome.Outcome.TheVariants as end
use Rattle.run_chain.specs.Effects.{OutsideSeen}
use Rattle.run_chain.specs.Running.{BegunRuns, ChainRuns, EndsAtSource, EndsBefore, EndsUnbegun, IsUntold, JobRuns, ReadsWords, RunsCommands, TellsLine, ToldAlone, WordsRun, stream_of}
use Rattle.region_model.specs.Answers as answers
use Rattle.region_model.specs.Answers.{AreRight}
use Rattle.word_model.specs.Words.{words_say}
use Rattle.chain_model.specs.Headline.{HasCause, IsComplete, NothingFailed}
use Rattle.chain_model.specs.Outcome as model
use Rattle.chain_model.specs.Running.{Begun, Effect, JobTells, Runs, RunsOrStops, SynthesizesOrStops, WordsTell, begins, checked_density, run_from}
use Rattle.chain_model.specs.Sources.{AreReadings, Readings}
use Rattle.layer_laws.specs.Shown.{StateShows, View, plane_of}
use Rattle.headline_laws.specs.Causes.{counts_of}
use Rattle.headline_laws.specs.Outcomes.{outcome_as}
use Rattle.headline_laws.specs.Refused.{outside_of}
use Rattle.headline_laws.proofs.Said.{said_by}
use Rattle.headline_laws.specs.Begins.{BegunShows}
use Rattle.headline_laws.specs.Ends.{IsAsked, IsOfContents}
use Rattle.headline_laws.proofs.Beginning.{begun_alike}
use Rattle.headline_laws.proofs.Dense.{dense}
use Rattle.headline_laws.proofs.Ending.{contents_end}
use Rattle.headline_laws.specs.ChainSteps.{CommandsShow}
use Rattle.headline_laws.proofs.Commands.{Ran, from, ran_all}
use Rattle.headline_laws.proofs.Answered.{answered, seen_still, sources_still, state_still, still_view}
use Rattle.headline_laws.proofs.OneRun.{begins_alike, one_run, with_commands}
use Rattle.headline_laws.proofs.Runs.{are_told, cause}
use Rattle.headline_laws.proofs.Steps.{all_commands}

-- done, or want of memory
abbrev IsWhole : Outcome → Type 0
IsWhole o = (outcome_as o ≡ model.done) ⊎ (outcome_as o ≡ model.memory)

-- no read and no write failed
record Unfailed (o : Outcome) : Type 0 where
  read : (n : ℕ) → o ≡ end.ReadFault n → ⊥
  write : (n : ℕ) → o ≡ end.WriteFault n → ⊥

-- ## Chains

module _ (read : Readings) (line : List Content) (c : Chain) (seen seen' : SourcesSeen) (files : FileMap) (bytes : Content) (a : IsAsked read line (job.Chain c) seen files bytes) (before after : OutsideSeen) (o : Outcome) (lasts : Unfailed o)
    (w : ChainWords) (fits : FitsChain w c) (d : Chain) (fit : FitsChain w d) (effects : List Effect) (told : RunsOrStops (begins read d files bytes) model.done effects) where
  told_by : (r : Result Begun model.Outcome) → begins read c files bytes ≡ r → RunsOrStops (with_commands d.commands r) model.done effects
  told_by r e =
      subst (λ (x : Result Begun model.Outcome). RunsOrStops (with_commands d.commands x) model.done effects) e
      (subst (λ (x : Result Begun model.Outcome). RunsOrStops x model.done effects) (begins_alike read w c d fits fit files bytes) told)

  by_contents : EndsBefore c seen seen' before after o → IsOfContents o → IsWhole o
  by_contents ends mine = let stops = told_by (Err (outcome_as o)) (contents_end read line c seen seen' files bytes a before after o ends mine) in inl (sym stops.0)

  at_source : EndsBefore c seen seen' before after o → (f : SourceFault) → o ≡ of_sources f → IsWhole o
  at_source ends (fault.ReadFault n) e = absurd (lasts.read n e)
  at_source ends (fault.Missing n) e = by_contents ends (subst IsOfContents (sym e) tt)
  at_source ends (fault.TooLong n) e = by_contents ends (subst IsOfContents (sym e) tt)
  at_source ends (fault.BadInput n why) e = by_contents ends (subst IsOfContents (sym e) tt)
  at_source ends fault.Memory e = inr (ap outcome_as e)

  at_drawing : EndsBefore c seen seen' before after o → (f : SnapFault) → o ≡ of_drawing f → IsWhole o
  at_drawing ends (snap.TooDense count) e = by_contents ends (subst IsOfContents (sym e) tt)
  at_drawing ends snap.Memory e = inr (ap outcome_as e)

  ended : EndsBefore c seen seen' before after o → IsWhole o
  ended ends = go ends.stops
    where
      go : EndsAtSource c seen seen' o ⊎ EndsUnbegun c seen seen' o → IsWhole o
      go (inl s) = at_source ends s.fault s.ends
      go (inr u) = at_drawing ends u.fault u.ends

  module _ (run : RunsCommands c seen before after o) (b : Begun) (begun : begins read c files bytes ≡ Ok b) (shows : BegunShows c run.begun run.base b) where
    runs : Runs (record b { commands = d.commands }) model.done effects
    runs = told_by (Ok b) begun

    -- the view by the answers of the run that is told
    abbrev here : View
    here = answered shows.view runs.answers

    ran_so : BegunRuns run.base run.begun c.commands run.middle after o → IsWhole o
    ran_so (inr (e, kept)) = inr (ap outcome_as e)
    ran_so (inl ran) = go (ran_all here run.base b shows.of_view shows.places c.commands 0 (first_layers run.begun) b.state run.middle after o state show ran)
      where
        state : StateShows here (first_layers run.begun) b.state
        state = state_still shows.view runs.answers (first_layers run.begun) b.state shows.state

        show : CommandsShow here run.base b.sources (first_layers run.begun) b.state c.commands
        show =
            all_commands here (still_view shows.view runs.answers shows.is_view (subst (λ (P : answers.Plane). AreRight P runs.answers) shows.of_view runs.right)) run.base
            (seen_still shows.view runs.answers run.base.plane shows.seen) b.sources (sources_still shows.view runs.answers run.base.sources b.sources shows.sources) c.commands (first_layers run.begun) b.state state

        one_end : (run_from (plane_of here) runs.answers b.sources 1 b.state c.commands).1 ≡ model.done
        one_end =
            ap (λ (P : answers.Plane). (run_from P runs.answers b.sources 1 b.state c.commands).1) (sym shows.of_view)
            ∙ ap (λ t. t.1) (one_run b.plane runs.answers b.sources w.so_far.commands c.commands d.commands fits.commands fit.commands 1 b.state)
            ∙ sym runs.ends

        go : Ran here run.base b shows.of_view shows.places (from here run.base b shows.of_view shows.places 1 b.state c.commands) run.middle after o → IsWhole o
        go (inl x) = inl (x.ends ∙ one_end)
        go (inr (inl (e, x))) = inr (ap outcome_as e)
        go (inr (inr (n, e, x))) = absurd (lasts.write n e)

  chain_whole : ChainRuns c seen seen' before after o → IsWhole o
  chain_whole (inl ends) = ended ends
  chain_whole (inr run) = let x = begun_alike read line c seen files bytes a before after o run in ran_so run x.0 x.1 x.2 run.ran

-- ## Made-up mosaics

module _ (seed n : ℕ) (seen seen' : SourcesSeen) (before after : OutsideSeen) (o : Outcome) (lasts : Unfailed o) (alone : ToldAlone seed n seen seen' before after o) (effects : List Effect) (told : SynthesizesOrStops (checked_density (cells seed n)) n model.done effects) where
  untold_whole : (f : SnapFault) → FaultMeans (cells seed n) f → o ≡ of_drawing f → IsWhole o
  untold_whole (snap.TooDense count) means e =
      let stops = subst (λ (r : Result Drawing model.Outcome). SynthesizesOrStops r n model.done effects) (dense (cells seed n) count means.0 means.1) told in
      inl (ap outcome_as e ∙ sym stops.0)
  untold_whole snap.Memory means e = inr (ap outcome_as e)

  mosaic_whole : IsWhole o
  mosaic_whole = go alone.stream
    where
      written : (line : Content) → ((o ≡ end.Done) × Appends before.stream after.stream line) ⊎ ((o ≡ end.WriteFault 1) × Rose before.stream_faults after.stream_faults × AddsFront before.stream after.stream line) → IsWhole o
      written line (inl x) = inl (ap outcome_as x.0)
      written line (inr x) = absurd (lasts.write 1 x.0)

      go : IsUntold seed n (stream_of before) (stream_of after) o ⊎ TellsLine seed n (stream_of before) (stream_of after) o → IsWhole o
      go (inl u) = untold_whole u.fault u.too_much u.ends
      go (inr t) = written t.line t.told

-- ## Words

module _ (read : Readings) (right : AreReadings read) (line : List Content) (seen seen' : SourcesSeen) (before after : OutsideSeen) (same : before.files ≡ seen.files) (o : Outcome) (run : WordsRun line seen seen' before after o) where
  abbrev said : Reading JobWords
  said = words_say read.refusals line

  unfailed : NothingFailed (counts_of seen before) (counts_of seen' after) said → Unfailed o
  unfailed nothing =
      let caused = λ (x : Outcome) (e : o ≡ x). subst (λ (y : Outcome). HasCause said before.files seen.input (counts_of seen before) (counts_of seen' after) (outcome_as y)) e (cause read right line seen seen' before after o run same) in
      record { read = λ n e. nothing.sources n (caused (end.ReadFault n) e); write = λ n e. nothing.outputs n (caused (end.WriteFault n) e) }

  module _ (files : FileMap) (bytes : Content) (effects : List Effect) (lasts : Unfailed o) where
    by_jobs : (j k : Job) → IsAsked read line j seen files bytes → JobRuns (Ok j) seen seen' before after o → (w : JobWords) → FitsJob w j → FitsJob w k → JobTells read files bytes k model.done effects → IsWhole o
    by_jobs (job.Chain c) (job.Chain d) asked ran (chain w) fits fit told = chain_whole read line c seen seen' files bytes asked before after o lasts w fits d fit effects told ran
    by_jobs (job.Chain c) k asked ran (synth seed size) fits fit told = absurd fits
    by_jobs (job.Chain c) (job.Synth s n) asked ran (chain w) fits fit told = absurd fit
    by_jobs (job.Synth s n) k asked ran (chain w) fits fit told = absurd fits
    by_jobs (job.Synth s n) (job.Chain d) asked ran (synth seed size) fits fit told = absurd fit
    by_jobs (job.Synth s n) (job.Synth t m) asked ran (synth seed size) fits fit told =
        mosaic_whole s n seen seen' before after o lasts ran effects
        (subst (λ (k : ℕ). SynthesizesOrStops (checked_density (cells s k)) k model.done effects) (fit.1 ∙ sym fits.1)
        (subst (λ (x : ℕ). SynthesizesOrStops (checked_density (cells x m)) m model.done effects) (fit.0 ∙ sym fits.0) told))

    by_answer : (answer : Result Job WordFault) → ReadsWords line answer → ((j : Job) → ReadsWords line (Ok j) → IsAsked read line j seen files bytes) → JobRuns answer seen seen' before after o → WordsTell read files bytes said model.done effects → IsWhole o
    by_answer (Err (words.Bad n why)) reads asked ran told =
        let t = said_by read.refusals right.expressions line (Err (words.Bad n why)) reads in
        let stops = subst (λ (r : Reading JobWords). WordsTell read files bytes r model.done effects) t told in
        inl (ap outcome_as ran.ends ∙ sym stops.0)
    by_answer (Err words.Memory) reads asked ran told = inr (ap outcome_as ran.ends)
    by_answer (Ok j) reads asked ran told =
        let t = said_by read.refusals right.expressions line (Ok j) reads in
        let (k, fit, tells) = subst (λ (r : Reading JobWords). WordsTell read files bytes r model.done effects) t.1 told in
        by_jobs j k (asked j reads) ran t.0 t.2 fit tells

  pub complete : IsComplete read said seen.input (outside_of before) (counts_of seen before) (counts_of seen' after) (outcome_as o)
  complete files bytes effects of_files of_input told nothing =
      by_answer files bytes effects (unfailed nothing) run.answer run.reads
      (λ j reads. record { right = right; asked = reads; told = are_told read right line seen seen' before after o run same files bytes of_files of_input }) run.runs told
