-- A made-up mosaic that is too dense.
use Rattle.std.proofs.Common.{◌≡◌, ◌⊎◌, inl, inr, ℕ, [], Result, Ok, refl, sym, ap, subst}
use Rattle.std.specs.Io.KnownBytes.{Appends}
use Rattle.plane_model.specs.Drawing.{Drawing}
use Rattle.io_core.specs.Contents.{SameFiles}
use Rattle.io_core.specs.Counts.{Rose}
use Rattle.io_core.proofs.FileReading.{SameFiles-refl}
use Rattle.synth_model.specs.Cells.{cells}
use Rattle.snap_round.specs.Snapping.{FaultMeans}
use Rattle.snap_round.specs.declared.fault.SnapFault.{SnapFault}
use Rattle.snap_round.specs.declared.fault.SnapFault.TheVariants as snap
use Rattle.job_terms.specs.declared.job.Job.TheVariants as job
use Rattle.cmd_words.specs.Tells.{FitsJob}
use Rattle.cmd_words.specs.Words.{JobWords, Reading}
use Rattle.run_outcome.specs.Ends.{of_drawing}
use Rattle.run_outcome.specs.Telling.{AddsFront, StreamSeen}
use Rattle.run_outcome.specs.declared.outcome.Outcome.{Outcome}
use Rattle.run_outcome.specs.declared.outcome.Outcome.TheVariants as end
use Rattle.run_chain.specs.Effects.{OutsideSeen}
use Rattle.run_chain.specs.Running.{SynthRuns, stream_of}
use Rattle.word_model.specs.Words.{words_say}
use Rattle.chain_model.specs.Headline.{Binds}
use Rattle.chain_model.specs.Outcome as model
use Rattle.chain_model.specs.Running.{SynthesizesOrStops, WordsTell}
use Rattle.headline_laws.specs.Outcomes.{outcome_as}
use Rattle.headline_laws.specs.Refused.{outside_of}
use Rattle.headline_laws.proofs.Said.{said_by}
use Rattle.headline_laws.proofs.Unchanged.{keeps}
use Rattle.headline_laws.specs.Ends.{DenseMosaicsEndTheRun}
use Rattle.headline_laws.proofs.Dense.{dense}

-- the count of its links, and what it leaves of the standard stream
record IsDense (seed n : ℕ) (before after : OutsideSeen) (count : ℕ) : Type 0 where
  means : FaultMeans (cells seed n) (snap.TooDense count)
  stream : after.stream ≡ before.stream

dense_by : (seed n : ℕ) (before after : OutsideSeen) (count : ℕ) (o : Outcome) → SynthRuns seed n (stream_of before) (stream_of after) o → o ≡ end.TooDense count → IsDense seed n before after count
dense_by seed n before after count o (inl u) is = go u.fault u.too_much u.ends
  where
    go : (f : SnapFault) → FaultMeans (cells seed n) f → o ≡ of_drawing f → IsDense seed n before after count
    go (snap.TooDense m) means ends =
        let same : m ≡ count = cc in
        record { means = subst (λ (k : ℕ). FaultMeans (cells seed n) (snap.TooDense k)) same means; stream = ap (λ (s : StreamSeen). s.told) u.kept }
    go snap.Memory means ends = absurd (cc)
dense_by seed n before after count o (inr t) is = absurd (go t.told)
  where
    go : ((o ≡ end.Done) × Appends before.stream after.stream t.line) ⊎ ((o ≡ end.WriteFault 1) × Rose before.stream_faults after.stream_faults × AddsFront before.stream after.stream t.line) → ⊥
    go (inl d) =
        let done : o ≡ end.Done = d.0 in
        cc
    go (inr w) =
        let failed : o ≡ end.WriteFault 1 = w.0 in
        cc

pub dense_ends : DenseMosaicsEndTheRun
dense_ends read right line seed n asked seen seen' files bytes before after o alone count is = subst (λ (x : Outcome). Binds read (words_say read.refusals line) files bytes (outside_of before) (outside_of after) (outcome_as x)) (sym is) bound
  where
    t : (w : JobWords) × (words_say read.refusals line ≡ Ok w) × FitsJob w (job.Synth seed n)
    t = said_by read.refusals right.expressions line (Ok (job.Synth seed n)) asked

    here : IsDense seed n before after count
    here = dense_by seed n before after count o alone.stream is

    bound : Binds read (words_say read.refusals line) files bytes (outside_of before) (outside_of after) (model.too_dense count)
    bound = record {
      effects = [];
      told = subst (λ (r : Reading JobWords). WordsTell read files bytes r (model.too_dense count) []) (sym t.1)
          (job.Synth seed n, t.2, subst (λ (r : Result Drawing model.Outcome). SynthesizesOrStops r n (model.too_dense count) []) (sym (dense (cells seed n) count here.means.0 here.means.1)) (refl, refl));
      held = keeps before after (subst (SameFiles before.files) (sym alone.files) (SameFiles-refl before.files)) here.stream;
    }
