-- Each answer has a cause.
use Rattle.std.proofs.Common.{◌≡◌, ◌⊎◌, inl, inr, ℕ, zero, suc, ◌+◌, Bool, true, false, List, [], ◌∷◌, slice_get, take, Some, Result, Ok, Err, MatchBool, refl, ap, sym, ◌∙◌, subst, arith}
use Rattle.std.specs.Io.KnownBytes.{Appends}
use Rattle.lists.specs.Lists.{joined_up}
use Rattle.plane_model.specs.Drawing.{Drawing}
use Rattle.synth_model.specs.Cells.{cells}
use Rattle.io_core.specs.Contents.{Content}
use Rattle.io_core.specs.Counts.{Rose}
use Rattle.cmd_words.specs.declared.fault.WordFault.{WordFault}
use Rattle.cmd_words.specs.declared.fault.WordFault.TheVariants as word
use Rattle.cmd_words.specs.declared.action_words.ActionWords.{ActionWords}
use Rattle.cmd_words.specs.declared.action_words.ActionWords.TheVariants as asked
use Rattle.cmd_words.specs.declared.action_words.CommandWords.{CommandWords}
use Rattle.job_terms.specs.declared.job.Action.{Action}
use Rattle.job_terms.specs.declared.job.Action.TheVariants as action
use Rattle.job_terms.specs.declared.job.Chain.{Chain}
use Rattle.job_terms.specs.declared.job.Command.{Command}
use Rattle.job_terms.specs.declared.job.Job.{Job}
use Rattle.job_terms.specs.declared.job.Job.TheVariants as job
use Rattle.job_terms.specs.declared.job.OutForm.{OutForm}
use Rattle.job_terms.specs.declared.job.SourceWord.{SourceWord}
use Rattle.cmd_words.specs.ActionWords.{FitsAction, whole, join, spatial_join, filter, each, sort, uniq, FitsCommand, FitEach}
use Rattle.cmd_words.specs.Tells.{Tells, FitsJob, FitsChain}
use Rattle.cmd_words.specs.Words.{Reading, ChainWords, JobWords, synth, chain}
use Rattle.word_model.specs.Words.{words_say}
use Rattle.snap_round.specs.Snapping.{FaultMeans}
use Rattle.snap_round.specs.declared.fault.SnapFault.{SnapFault}
use Rattle.snap_round.specs.declared.fault.SnapFault.TheVariants as snap
use Rattle.run_sources.specs.Sources.{SourcesSeen, Grew, StopsAtSource, SourceStops, ReadsMore}
use Rattle.run_sources.specs.Budget.{whole_budget}
use Rattle.run_sources.specs.declared.fault.SourceFault.{SourceFault}
use Rattle.run_sources.specs.declared.fault.SourceFault.TheVariants as fault
use Rattle.run_beginning.specs.Drawing.{drawing_of}
use Rattle.run_state.specs.Targets.{first_layers}
use Rattle.run_outcome.specs.Telling.{AddsFront}
use Rattle.run_outcome.specs.Ends.{of_drawing, of_sources}
use Rattle.run_outcome.specs.declared.outcome.Outcome.{Outcome}
use Rattle.run_outcome.specs.declared.outcome.Outcome.TheVariants as end
use Rattle.run_chain.specs.Effects.{OutsideSeen, CountsGrew}
use Rattle.run_chain.specs.Running.{JobRuns, ChainRuns, SynthRuns, EndsBefore, EndsAtSource, EndsUnbegun, BegunRuns, RunsCommands, stream_of}
use Rattle.chain_model.specs.Headline.{AreAccepted, HasCause}
use Rattle.chain_model.specs.Headline as model
use Rattle.headline_laws.specs.Outcomes.{outcome_as}
use Rattle.headline_laws.specs.Causes.{counts_of, FaultsHaveCauses}
use Rattle.headline_laws.proofs.Said.{said_by}
use Rattle.headline_laws.proofs.Counts.{Budget, given_grew, source_rose, source_missing, ActionRose, action_rose}
use Rattle.headline_laws.proofs.Lengths.{too_much}
use Rattle.headline_laws.proofs.CommandFaults.{CommandsEnd, DoneOrMemory, done_or_memory_by, RefusedOne, FailedWrite, commands_end}

-- ## Commands by their words

fitting_at : (ws : List CommandWords) (cs : List Command) (k : ℕ) (c : Command) → FitEach ws cs → slice_get cs k ≡ Some c → (w : CommandWords) × (slice_get ws k ≡ Some w) × FitsCommand w c
fitting_at [] [] k c f e = absurd (cc)
fitting_at [] (d ∷ cs) k c f e = absurd f
fitting_at (w ∷ ws) [] k c f e = absurd f
fitting_at (w ∷ ws) (d ∷ cs) zero c f e =
    let same : d ≡ c = cc in
    (w, refl, subst (λ (x : Command). FitsCommand w x) same f.0)
fitting_at (w ∷ ws) (d ∷ cs) (suc k) c f e = fitting_at ws cs k c f.1 e

module _ (seen seen' : SourcesSeen) (before after : OutsideSeen) where
  write_same : (to : Content) (standard : Bool) (form : OutForm) → ActionRose before after (action.Write to standard form) → model.WriteRose (counts_of seen before) (counts_of seen' after) (asked.Whole (action.Write to standard form))
  write_same to true form r = r
  write_same to false form r = r

  whole_same : (a : Action) → ActionRose before after a → model.WriteRose (counts_of seen before) (counts_of seen' after) (asked.Whole a)
  whole_same (action.Write to standard form) r = write_same to standard form r
  whole_same (action.Each a) r = absurd r
  whole_same (action.Together a) r = absurd r

  action_same : {w : ActionWords} {a : Action} → FitsAction w a → ActionRose before after a → model.WriteRose (counts_of seen before) (counts_of seen' after) w
  action_same (whole {a = b}) r = whole_same b r
  action_same (join f) r = absurd r
  action_same (spatial_join f) r = absurd r
  action_same (filter f) r = absurd r
  action_same (each f) r = absurd r
  action_same (sort f) r = absurd r
  action_same (uniq f) r = absurd r

  -- ## What is told of an outcome

  abbrev Told : Reading JobWords → Outcome → Type 0
  Told words o = HasCause words seen.files seen.input (counts_of seen before) (counts_of seen' after) (outcome_as o)

  -- words that are accepted, where nothing is told of them but Done, or Memory
  done_or_memory_told : (words : Reading JobWords) → AreAccepted words → (o : Outcome) → DoneOrMemory o → Told words o
  done_or_memory_told words are end.Done q = are
  done_or_memory_told words are (end.BadWords n why) q = absurd q
  done_or_memory_told words are (end.ReadFault n) q = absurd q
  done_or_memory_told words are (end.Missing n) q = absurd q
  done_or_memory_told words are (end.TooLong n) q = absurd q
  done_or_memory_told words are (end.BadInput n why) q = absurd q
  done_or_memory_told words are (end.TooDense n) q = absurd q
  done_or_memory_told words are (end.Refused n why) q = absurd q
  done_or_memory_told words are (end.WriteFault n) q = absurd q
  done_or_memory_told words are end.Memory q = tt

  -- a drawing that has too many links
  drawing_told : (words : Reading JobWords) → AreAccepted words → (d : Drawing) (f : SnapFault) → FaultMeans d f → Told words (of_drawing f)
  drawing_told words are d (snap.TooDense count) means = (are, means.1)
  drawing_told words are d snap.Memory means = tt

  told_by : (words : Reading JobWords) (o end' : Outcome) → o ≡ end' → Told words end' → Told words o
  told_by words o end' e t = subst (Told words) (sym e) t

  -- ## A mosaic

  mosaic_told : (seed size s n : ℕ) (o : Outcome) → SynthRuns s n (stream_of before) (stream_of after) o → Told (Ok (synth seed size)) o
  mosaic_told seed size s n o (inl u) = told_by (Ok (synth seed size)) o (of_drawing u.fault) u.ends (drawing_told (Ok (synth seed size)) (synth seed size, refl) (cells s n) u.fault u.too_much)
  mosaic_told seed size s n o (inr t) = go t.told
    where
      go : ((o ≡ end.Done) × Appends before.stream after.stream t.line) ⊎ ((o ≡ end.WriteFault 1) × Rose before.stream_faults after.stream_faults × AddsFront before.stream after.stream t.line) → Told (Ok (synth seed size)) o
      go (inl d) = told_by (Ok (synth seed size)) o end.Done d.0 (synth seed size, refl)
      go (inr w) = told_by (Ok (synth seed size)) o (end.WriteFault 1) w.0 (refl, w.1)

  -- ## A chain

  module _ (w : ChainWords) (c : Chain) (fits : FitsChain w c) where
    abbrev words : Reading JobWords
    words = Ok (chain w)

    are_accepted : AreAccepted words
    are_accepted = (chain w, refl)

    there : (k : ℕ) (s : SourceWord) → slice_get c.sources k ≡ Some s → slice_get w.so_far.sources k ≡ Some s
    there k s e = ap (λ (xs : List SourceWord). slice_get xs k) (sym fits.sources) ∙ e

    if_untold : (b : Bool) {P : Type 0} → P → MatchBool b (Unit {0}) P
    if_untold true p = tt
    if_untold false p = p

    source_told : (budget : Budget) (k : ℕ) (s : SourceWord) (middle : SourcesSeen) (f : SourceFault) → slice_get c.sources k ≡ Some s → Grew seen middle → (ReadsMore budget.bytes middle seen' s → model.ReadTooMuch (counts_of seen before) (counts_of seen' after)) → SourceStops c.places budget (k + 1) s middle seen' f → Told words (of_sources f)
    source_told budget k s middle (fault.ReadFault n) e grew much stops = (k, s, stops.0, there k s e, source_rose seen middle seen' s grew stops.1)
    source_told budget k s middle (fault.Missing n) e grew much stops = (k, s, stops.0, there k s e, source_missing seen middle seen' s grew stops.1)
    source_told budget k s middle (fault.TooLong n) e grew much stops = ((k, s, stops.0, there k s e, tt), if_untold (model.are_told words seen.files seen.input) (much stops.2))
    source_told budget k s middle (fault.BadInput n why) e grew much stops = (k, s, stops.0, there k s e, tt)
    source_told budget k s middle fault.Memory e grew much stops = tt

    at_source : (o : Outcome) → EndsAtSource c seen seen' o → Told words o
    at_source o a =
        let s : StopsAtSource c.places c.sources seen seen' a.fault = a.stops in
        told_by words o (of_sources a.fault) a.ends (source_told s.left s.place s.source s.middle a.fault s.is_there (given_grew c.places (take s.place c.sources) whole_budget s.left seen s.middle s.layers s.given) (too_much c.places (take s.place c.sources) s.source s.left seen s.middle seen' s.layers s.given s.grew) s.stops)

    before_told : (o : Outcome) → EndsBefore c seen seen' before after o → Told words o
    before_told o b = go b.stops
      where
        go : EndsAtSource c seen seen' o ⊎ EndsUnbegun c seen seen' o → Told words o
        go (inl a) = at_source o a
        go (inr u) = told_by words o (of_drawing u.fault) u.ends (drawing_told words are_accepted (drawing_of (joined_up u.layers) c.boxes) u.fault u.unbegun)

    refused_told : (o : Outcome) → RefusedOne 0 c.commands o → Told words o
    refused_told o r =
        let v = fitting_at w.so_far.commands c.commands r.place r.command fits.commands r.there in
        told_by words o (end.Refused (0 + (r.place + 1)) r.why) r.ends (r.place, v.0, omega arith, v.1, tt)

    failed_told : (middle : OutsideSeen) (o : Outcome) → CountsGrew before middle → FailedWrite 0 c.commands middle after o → Told words o
    failed_told middle o grew f =
        let v = fitting_at w.so_far.commands c.commands f.place f.command fits.commands f.there in
        told_by words o (end.WriteFault (0 + (f.place + 1))) f.ends (f.place, v.0, omega arith, v.1, action_same v.2.action (action_rose f.command.action before middle after grew f.rose))

    commands_told : (o : Outcome) → RunsCommands c seen before after o → Told words o
    commands_told o r = go r.ran
      where
        ended : CommandsEnd 0 c.commands r.middle after o → Told words o
        ended (inl q) = done_or_memory_told words are_accepted o q
        ended (inr (inl x)) = refused_told o x
        ended (inr (inr f)) = failed_told r.middle o r.kept.counts f

        go : BegunRuns r.base r.begun c.commands r.middle after o → Told words o
        go (inl ran) = ended (commands_end r.base c.commands 0 (first_layers r.begun) r.middle after o ran)
        go (inr m) = done_or_memory_told words are_accepted o (done_or_memory_by o end.Memory m.0 tt)

    chain_told : (o : Outcome) → ChainRuns c seen seen' before after o → Told words o
    chain_told o (inl b) = before_told o b
    chain_told o (inr r) = commands_told o r

  -- ## A job

  fitting_told : (v : JobWords) (j : Job) (o : Outcome) → FitsJob v j → JobRuns (Ok j) seen seen' before after o → Told (Ok v) o
  fitting_told (synth seed size) (job.Synth s n) o f r = mosaic_told seed size s n o r.stream
  fitting_told (synth seed size) (job.Chain c) o f r = absurd f
  fitting_told (chain w) (job.Synth s n) o f r = absurd f
  fitting_told (chain w) (job.Chain c) o f r = chain_told w c f o r

  job_told : (words : Reading JobWords) (answer : Result Job WordFault) (o : Outcome) → Tells FitsJob words answer → JobRuns answer seen seen' before after o → Told words o
  job_told said (Err (word.Bad n why)) o t r = told_by said o (end.BadWords n why) r.ends t
  job_told said (Err word.Memory) o t r = told_by said o end.Memory r.ends tt
  job_told said (Ok j) o t r = subst (λ (x : Reading JobWords). Told x o) (sym t.1) (fitting_told t.0 j o t.2 r)

pub causes : FaultsHaveCauses
causes refuses right words seen seen' before after o run = job_told seen seen' before after (words_say refuses words) run.answer o (said_by refuses right words run.answer run.reads) run.runs
