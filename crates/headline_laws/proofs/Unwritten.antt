-- Words, sources and a drawing that end a run leave everything as it was, whatever is told.
use Rattle.std.proofs.Common.{◌≡◌, ◌⊎◌, inl, inr, sym, ap, subst, ℕ, ◌+◌, [], List, Result, Ok, Err}
use Rattle.io_core.specs.Contents.{Content, SameFiles}
use Rattle.io_core.proofs.FileReading.{SameFiles-refl}
use Rattle.std.specs.Io.KnownBytes.{Appends}
use Rattle.io_core.specs.Counts.{Rose}
use Rattle.job_terms.specs.declared.job.Chain.{Chain}
use Rattle.job_terms.specs.declared.job.Job.{Job}
use Rattle.job_terms.specs.declared.job.Job.TheVariants as job
use Rattle.cmd_words.specs.declared.fault.WordFault.{WordFault}
use Rattle.run_sources.specs.Sources.{SourcesSeen}
use Rattle.run_state.specs.Targets.{first_layers}
use Rattle.run_outcome.specs.Telling.{AddsFront, StreamSeen}
use Rattle.run_outcome.specs.declared.outcome.Outcome.{Outcome}
use Rattle.run_outcome.specs.declared.outcome.Outcome.TheVariants as end
use Rattle.run_chain.specs.Effects.{OutsideSeen}
use Rattle.run_chain.specs.Running.{BegunRuns, ChainRuns, IsUntold, JobRuns, RunsCommands, TellsLine, ToldAlone, WordsRun, stream_of}
use Rattle.chain_model.specs.Headline.{HoldsAfter, Unwritten}
use Rattle.headline_laws.specs.Outcomes.{outcome_as}
use Rattle.headline_laws.specs.Refused.{outside_of}
use Rattle.headline_laws.proofs.CommandFaults.{CommandsEnd, DoneOrMemory, commands_end, done_or_memory_by}
use Rattle.headline_laws.proofs.Unchanged.{keeps, unchanged}

module _ (before after : OutsideSeen) where
  abbrev Left : Outcome → Type 0
  Left o = Unwritten (outside_of before) (outside_of after) (outcome_as o)

  left_as : (o other : Outcome) → o ≡ other → Left other → Left o
  left_as o other e = subst Left (sym e)

  -- where nothing has changed
  same_left : HoldsAfter (outside_of before) (outside_of after) [] → (o : Outcome) → Left o
  same_left held end.Done = tt
  same_left held (end.BadWords n why) = held
  same_left held (end.ReadFault n) = held
  same_left held (end.Missing n) = held
  same_left held (end.TooLong n) = held
  same_left held (end.BadInput n why) = held
  same_left held (end.TooDense count) = held
  same_left held (end.Refused n why) = tt
  same_left held (end.WriteFault n) = tt
  same_left held end.Memory = tt

  -- where the run is done, or out of memory
  done_or_memory_left : (o : Outcome) → DoneOrMemory o → Left o
  done_or_memory_left end.Done q = tt
  done_or_memory_left (end.BadWords n why) q = absurd q
  done_or_memory_left (end.ReadFault n) q = absurd q
  done_or_memory_left (end.Missing n) q = absurd q
  done_or_memory_left (end.TooLong n) q = absurd q
  done_or_memory_left (end.BadInput n why) q = absurd q
  done_or_memory_left (end.TooDense count) q = absurd q
  done_or_memory_left (end.Refused n why) q = absurd q
  done_or_memory_left (end.WriteFault n) q = absurd q
  done_or_memory_left end.Memory q = tt

  commands_left : (c : Chain) (seen : SourcesSeen) (o : Outcome) → RunsCommands c seen before after o → Left o
  commands_left c seen o r = go r.ran
    where
      ended : CommandsEnd 0 c.commands r.middle after o → Left o
      ended (inl q) = done_or_memory_left o q
      ended (inr (inl x)) = left_as o (end.Refused (0 + (x.place + 1)) x.why) x.ends tt
      ended (inr (inr f)) = left_as o (end.WriteFault (0 + (f.place + 1))) f.ends tt

      go : BegunRuns r.base r.begun c.commands r.middle after o → Left o
      go (inl ran) = ended (commands_end r.base c.commands 0 (first_layers r.begun) r.middle after o ran)
      go (inr m) = done_or_memory_left o (done_or_memory_by o end.Memory m.0 tt)

  chain_left : (c : Chain) (seen seen' : SourcesSeen) (o : Outcome) → ChainRuns c seen seen' before after o → Left o
  chain_left c seen seen' o (inl ends) = same_left (keeps before after ends.kept.files ends.kept.stream) o
  chain_left c seen seen' o (inr run) = commands_left c seen o run

  mosaic_left : (seed n : ℕ) (seen seen' : SourcesSeen) (o : Outcome) → ToldAlone seed n seen seen' before after o → Left o
  mosaic_left seed n seen seen' o alone = go alone.stream
    where
      files_kept : SameFiles before.files after.files
      files_kept = subst (SameFiles before.files) (sym alone.files) (SameFiles-refl before.files)

      told : (line : Content) → ((o ≡ end.Done) × Appends before.stream after.stream line) ⊎ ((o ≡ end.WriteFault 1) × Rose before.stream_faults after.stream_faults × AddsFront before.stream after.stream line) → Left o
      told line (inl x) = left_as o end.Done x.0 tt
      told line (inr x) = left_as o (end.WriteFault 1) x.0 tt

      go : IsUntold seed n (stream_of before) (stream_of after) o ⊎ TellsLine seed n (stream_of before) (stream_of after) o → Left o
      go (inl u) = same_left (keeps before after files_kept (ap (λ (s : StreamSeen). s.told) u.kept)) o
      go (inr t) = told t.line t.told

  job_left : (answer : Result Job WordFault) (seen seen' : SourcesSeen) (o : Outcome) → JobRuns answer seen seen' before after o → Left o
  job_left (Err fault) seen seen' o ran = same_left (unchanged before after ran.outside) o
  job_left (Ok (job.Synth seed n)) seen seen' o ran = mosaic_left seed n seen seen' o ran
  job_left (Ok (job.Chain c)) seen seen' o ran = chain_left c seen seen' o ran

pub unwritten : (line : List Content) (seen seen' : SourcesSeen) (before after : OutsideSeen) (o : Outcome) → WordsRun line seen seen' before after o → Unwritten (outside_of before) (outside_of after) (outcome_as o)
unwritten line seen seen' before after o run = job_left before after run.answer seen seen' o run.runs
