-- The answer of a made-up mosaic binds what is there afterwards.
use Rattle.std.proofs.Common.{◌≡◌, ◌⊎◌, inl, inr, refl, sym, ap, subst, ℕ, true, List, [], ◌∷◌, Result, Ok}
use Rattle.std.specs.Io.KnownBytes.{Appends}
use Rattle.plane_model.specs.Drawing.{Drawing}
use Rattle.io_core.specs.Contents.{Content, FileMap, SameFiles}
use Rattle.io_core.specs.Counts.{Rose}
use Rattle.io_core.proofs.FileReading.{SameFiles-refl}
use Rattle.synth_model.specs.Cells.{cells}
use Rattle.snap_round.specs.declared.fault.SnapFault.{SnapFault}
use Rattle.snap_round.specs.declared.fault.SnapFault.TheVariants as snap
use Rattle.job_terms.specs.declared.job.Job.TheVariants as job
use Rattle.cmd_words.specs.Tells.{FitsJob}
use Rattle.cmd_words.specs.Words.{JobWords, Reading}
use Rattle.run_sources.specs.Sources.{SourcesSeen}
use Rattle.run_outcome.specs.Ends.{of_drawing}
use Rattle.run_outcome.specs.Telling.{AddsFront, StreamSeen}
use Rattle.run_outcome.specs.declared.outcome.Outcome.{Outcome}
use Rattle.run_outcome.specs.declared.outcome.Outcome.TheVariants as end
use Rattle.run_chain.specs.Effects.{OutsideSeen}
use Rattle.run_chain.specs.Running.{IsUntold, TellsLine, ToldAlone, stream_of}
use Rattle.region_model.specs.Answers.{AreRight, Plane}
use Rattle.word_model.specs.Words.{words_say}
use Rattle.chain_model.specs.Headline.{Binds}
use Rattle.chain_model.specs.Outcome as model
use Rattle.chain_model.specs.Running.{Effect, Synthesizes, SynthesizesOrStops, WordsTell, checked_density}
use Rattle.chain_model.specs.Sources.{Readings}
use Rattle.chain_model.specs.Synth.{IsSynthLine}
use Rattle.headline_laws.specs.Outcomes.{outcome_as}
use Rattle.headline_laws.specs.Refused.{outside_of}
use Rattle.headline_laws.proofs.Said.{said_by}
use Rattle.headline_laws.proofs.Unchanged.{keeps, unchanged}
use Rattle.headline_laws.specs.Ends.{IsAsked}
use Rattle.headline_laws.specs.Mosaics.{LineShows}
use Rattle.headline_laws.proofs.BegunMosaics.{dense_ends}
use Rattle.headline_laws.proofs.SynthLine.{lines_show}
use Rattle.headline_laws.proofs.Effects.{cut_off, effect, files_cut, stream_cut, whole_held}
use Rattle.headline_laws.proofs.Same.{memory_bound}

module _ (read : Readings) (line : List Content) (seed n : ℕ) (seen seen' : SourcesSeen) (files : FileMap) (bytes : Content) (a : IsAsked read line (job.Synth seed n) seen files bytes) (before after : OutsideSeen) (o : Outcome) (alone : ToldAlone seed n seen seen' before after o) where
  abbrev Bound : Outcome → Type 0
  Bound x = Binds read (words_say read.refusals line) files bytes (outside_of before) (outside_of after) (outcome_as x)

  bound_as : (x : Outcome) → o ≡ x → Bound x → Bound o
  bound_as x e = subst Bound (sym e)

  files_kept : SameFiles before.files after.files
  files_kept = subst (SameFiles before.files) (sym alone.files) (SameFiles-refl before.files)

  -- ## The line

  abbrev line_effect : Content → Effect
  line_effect text = effect 1 true [] text

  tells_line : (text : Content) → (checked_density (cells seed n) ≡ Ok (cells seed n)) → LineShows seed n text → WordsTell read files bytes (words_say read.refusals line) model.done (line_effect text ∷ [])
  tells_line text few shows =
      let t : (w : JobWords) × (words_say read.refusals line ≡ Ok w) × FitsJob w (job.Synth seed n) = said_by read.refusals a.right.expressions line (Ok (job.Synth seed n)) a.asked in
      let made : Synthesizes (cells seed n) n model.done (line_effect text ∷ []) = record {
        answers = shows.view.answers;
        right = subst (λ (P : Plane). AreRight P shows.view.answers) shows.plane shows.is_view.right;
        line = text;
        is_line = subst (λ (P : Plane). IsSynthLine P shows.view.answers n text) shows.plane shows.is_line;
        ends = refl;
        gives = refl;
      } in
      subst (λ (r : Reading JobWords). WordsTell read files bytes r model.done (line_effect text ∷ [])) (sym t.1)
      (job.Synth seed n, t.2, subst (λ (r : Result Drawing model.Outcome). SynthesizesOrStops r n model.done (line_effect text ∷ [])) (sym few) made)

  line_bound : TellsLine seed n (stream_of before) (stream_of after) o → Bound o
  line_bound t = go t.told
    where
      told : WordsTell read files bytes (words_say read.refusals line) model.done (line_effect t.line ∷ [])
      told = let x = lines_show seed n t.line t.of_mosaic in tells_line t.line x.0 x.1

      go : ((o ≡ end.Done) × Appends before.stream after.stream t.line) ⊎ ((o ≡ end.WriteFault 1) × Rose before.stream_faults after.stream_faults × AddsFront before.stream after.stream t.line) → Bound o
      go (inl (e, gained)) = bound_as end.Done e (record {
        effects = line_effect t.line ∷ [];
        told = told;
        held = whole_held true 1 [] t.line before after (record { gained = gained; files = files_kept });
      })
      go (inr (e, rose, added)) =
          let cut = cut_off true 1 [] t.line before after (record { count = added.count; cut = added.cut; gained = record { gained = added.added; files = files_kept } }) in
          let held = unchanged before before refl in
          bound_as (end.WriteFault 1) e (record {
            effects = [];
            last = line_effect t.line;
            begins = record { outcome = model.done; rest = []; told = told };
            is_last = refl;
            files = files_cut before before after [] (line_effect t.line) held cut;
            stream = stream_cut before before after [] (line_effect t.line) held cut;
          })

  -- ## Or none

  untold_bound : IsUntold seed n (stream_of before) (stream_of after) o → Bound o
  untold_bound u = go u.fault u.ends
    where
      go : (f : SnapFault) → o ≡ of_drawing f → Bound o
      go (snap.TooDense count) e = dense_ends read a.right line seed n a.asked seen seen' files bytes before after o alone count e
      go snap.Memory e = memory_bound read line files bytes (outside_of before) (outside_of after) o e (keeps before after files_kept (ap (λ (s : StreamSeen). s.told) u.kept))

  pub mosaic_bound : Bound o
  mosaic_bound = go alone.stream
    where
      go : IsUntold seed n (stream_of before) (stream_of after) o ⊎ TellsLine seed n (stream_of before) (stream_of after) o → Bound o
      go (inl u) = untold_bound u
      go (inr t) = line_bound t
