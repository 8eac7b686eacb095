-- Chains that end before their commands begin.
use Rattle.std.proofs.Common.{◌≡◌, ◌⊎◌, inl, inr, ℕ, List, [], Result, Ok, Err, refl, sym, ap, ◌∙◌, subst}
use Rattle.std.specs.Prelude.{◌≢◌, ⊤}
use Rattle.lists.specs.Lists.{joined_up}
use Rattle.plane_model.specs.Drawing.{Drawing}
use Rattle.io_core.specs.Contents.{Content, FileMap}
use Rattle.geojson_io.specs.LayerContent.{LayerContent}
use Rattle.snap_round.specs.Snapping.{FaultMeans}
use Rattle.snap_round.specs.declared.fault.SnapFault.{SnapFault}
use Rattle.snap_round.specs.declared.fault.SnapFault.TheVariants as snap
use Rattle.job_terms.specs.declared.job.Chain.{Chain}
use Rattle.job_terms.specs.declared.job.Job.TheVariants as job
use Rattle.cmd_words.specs.Words.{JobWords, Reading}
use Rattle.run_sources.specs.Sources.{SourcesSeen, GivesAll, StopsAtSource}
use Rattle.run_sources.specs.declared.fault.SourceFault.{SourceFault}
use Rattle.run_sources.specs.declared.fault.SourceFault.TheVariants as fault
use Rattle.run_beginning.specs.Drawing as run
use Rattle.run_outcome.specs.Ends.{of_drawing, of_sources}
use Rattle.run_outcome.specs.declared.outcome.Outcome.{Outcome}
use Rattle.run_outcome.specs.declared.outcome.Outcome.TheVariants as end
use Rattle.run_chain.specs.Effects.{OutsideSeen}
use Rattle.run_chain.specs.Running.{EndsAtSource, EndsBefore, EndsUnbegun}
use Rattle.region_model.specs.Answers.{plane_of}
use Rattle.table_terms.specs.Refusals.{on_ok}
use Rattle.word_model.specs.Words.{words_say}
use Rattle.chain_model.specs.Beginning.{drawing_of}
use Rattle.chain_model.specs.Headline.{Binds, RunMeans, StopsInRead}
use Rattle.chain_model.specs.Outcome as model
use Rattle.chain_model.specs.Running.{Begun, RunsOrStops, WordsTell, begins, begun_with, checked_density}
use Rattle.chain_model.specs.Sources.{Readings}
use Rattle.layer_laws.proofs.Begun.{drawings_are_one}
use Rattle.headline_laws.specs.Outcomes.{outcome_as}
use Rattle.headline_laws.specs.Refused.{outside_of}
use Rattle.headline_laws.proofs.Unchanged.{keeps}
use Rattle.headline_laws.specs.Ends.{ChainsEndBeforeTheyBegin, ContentsEndChains, IsAsked, IsOfContents}
use Rattle.headline_laws.proofs.Asked.{ChainSaid, all_imported, chain_said, first_imported, one_refused}
use Rattle.headline_laws.proofs.Dense.{dense}

-- ## By the model

-- what begins where the sources are imported as this
abbrev pub past : Chain → Result (List (List LayerContent)) model.Outcome → Result Begun model.Outcome
past c answer = on_ok answer (λ (sources : List (List LayerContent)). on_ok (checked_density (drawing_of (joined_up sources) c.boxes)) (λ (d : Drawing). Ok (begun_with c sources (plane_of d))))

module _ (read : Readings) (line : List Content) (c : Chain) (seen seen' : SourcesSeen) (files : FileMap) (bytes : Content) (a : IsAsked read line (job.Chain c) seen files bytes) where
  abbrev EndsAs : Outcome → Type 0
  EndsAs o = begins read c files bytes ≡ Err (outcome_as o)

  source_ends : (f : SourceFault) → StopsAtSource c.places c.sources seen seen' f → IsOfContents (of_sources f) → EndsAs (of_sources f)
  source_ends (fault.ReadFault n) stops mine = absurd mine
  source_ends (fault.Missing n) stops mine = ap (past c) (one_refused read line c seen seen' files bytes a (fault.Missing n) tt stops)
  source_ends (fault.TooLong n) stops mine = ap (past c) (one_refused read line c seen seen' files bytes a (fault.TooLong n) tt stops)
  source_ends (fault.BadInput n why) stops mine = ap (past c) (one_refused read line c seen seen' files bytes a (fault.BadInput n why) tt stops)
  source_ends fault.Memory stops mine = absurd mine

  drawing_ends : (layers : List (List LayerContent)) → GivesAll c.places c.sources seen seen' layers → (f : SnapFault) → FaultMeans (run.drawing_of (joined_up layers) c.boxes) f → IsOfContents (of_drawing f) → EndsAs (of_drawing f)
  drawing_ends layers given (snap.TooDense count) means mine =
      let here : FaultMeans (drawing_of (joined_up layers) c.boxes) (snap.TooDense count) = subst (λ (d : Drawing). FaultMeans d (snap.TooDense count)) (drawings_are_one (joined_up layers) c.boxes) means in
      ap (past c) (all_imported read line c seen seen' files bytes a layers given)
      ∙ ap (λ (r : Result Drawing model.Outcome). on_ok r (λ (d : Drawing). Ok (begun_with c layers (plane_of d)))) (dense (drawing_of (joined_up layers) c.boxes) count here.0 here.1)
  drawing_ends layers given snap.Memory means mine = absurd mine

  early_ends : (o : Outcome) → EndsAtSource c seen seen' o ⊎ EndsUnbegun c seen seen' o → IsOfContents o → EndsAs o
  early_ends o (inl s) = subst (λ (x : Outcome). IsOfContents x → EndsAs x) (sym s.ends) (source_ends s.fault s.stops)
  early_ends o (inr u) = subst (λ (x : Outcome). IsOfContents x → EndsAs x) (sym u.ends) (drawing_ends u.layers u.given u.fault u.unbegun)

pub contents_end : ContentsEndChains
contents_end read line c seen seen' files bytes a before after o ends mine = early_ends read line c seen seen' files bytes a o ends.stops mine

-- ## What is bound

-- ends before the commands begin
abbrev IsEarly : Outcome → Type 0
IsEarly end.Done = ⊥
IsEarly (end.BadWords n why) = ⊥
IsEarly (end.Refused n why) = ⊥
IsEarly (end.WriteFault n) = ⊥
IsEarly _ = ⊤

early_source : (f : SourceFault) → IsEarly (of_sources f)
early_source (fault.ReadFault n) = tt
early_source (fault.Missing n) = tt
early_source (fault.TooLong n) = tt
early_source (fault.BadInput n why) = tt
early_source fault.Memory = tt

early_drawing : (f : SnapFault) → IsEarly (of_drawing f)
early_drawing (snap.TooDense count) = tt
early_drawing snap.Memory = tt

early : (c : Chain) (seen seen' : SourcesSeen) (o : Outcome) → EndsAtSource c seen seen' o ⊎ EndsUnbegun c seen seen' o → IsEarly o
early c seen seen' o (inl s) = subst IsEarly (sym s.ends) (early_source s.fault)
early c seen seen' o (inr u) = subst IsEarly (sym u.ends) (early_drawing u.fault)

module _ (read : Readings) (line : List Content) (c : Chain) (seen seen' : SourcesSeen) (files : FileMap) (bytes : Content) (a : IsAsked read line (job.Chain c) seen files bytes) (before after : OutsideSeen) where
  stopped : (o : Outcome) → EndsBefore c seen seen' before after o → IsOfContents o → RunMeans read (words_say read.refusals line) files bytes (outside_of before) (outside_of after) (outcome_as o)
  stopped o ends mine =
      let s : ChainSaid read line c = chain_said read a.right line c a.asked in
      let told : RunsOrStops (begins read c files bytes) (outcome_as o) [] =
      subst (λ (r : Result Begun model.Outcome). RunsOrStops r (outcome_as o) []) (sym (contents_end read line c seen seen' files bytes a before after o ends mine)) (refl, refl) in
      record {
        effects = [];
        told = subst (λ (r : Reading JobWords). WordsTell read files bytes r (outcome_as o) []) (sym s.said) (job.Chain c, s.fits, told);
        held = keeps before after ends.kept.files ends.kept.stream;
      }

  read_failed : (n : ℕ) → EndsBefore c seen seen' before after (end.ReadFault n) → StopsInRead read (words_say read.refusals line) files bytes (outside_of before) (outside_of after) n
  read_failed n ends = go ends.stops
    where
      at_source : (f : SourceFault) → end.ReadFault n ≡ of_sources f → StopsAtSource c.places c.sources seen seen' f → StopsInRead read (words_say read.refusals line) files bytes (outside_of before) (outside_of after) n
      at_source (fault.ReadFault m) e s = record {
        earlier = s.place;
        number = let same : n ≡ m = cc in same ∙ s.stops.0;
        accepted = first_imported read line c seen seen' files bytes a s.place s.middle s.layers (s.left, s.given);
        held = keeps before after ends.kept.files ends.kept.stream;
      }
      at_source (fault.Missing m) e s = absurd (cc)
      at_source (fault.TooLong m) e s = absurd (cc)
      at_source (fault.BadInput m why) e s = absurd (cc)
      at_source fault.Memory e s = absurd (cc)

      at_drawing : (f : SnapFault) → end.ReadFault n ≡ of_drawing f → StopsInRead read (words_say read.refusals line) files bytes (outside_of before) (outside_of after) n
      at_drawing (snap.TooDense count) e = absurd (cc)
      at_drawing snap.Memory e = absurd (cc)

      go : EndsAtSource c seen seen' (end.ReadFault n) ⊎ EndsUnbegun c seen seen' (end.ReadFault n) → StopsInRead read (words_say read.refusals line) files bytes (outside_of before) (outside_of after) n
      go (inl s) = at_source s.fault s.ends s.stops
      go (inr u) = at_drawing u.fault u.ends

  bound : (o : Outcome) → EndsBefore c seen seen' before after o → IsEarly o → o ≢ end.Memory → Binds read (words_say read.refusals line) files bytes (outside_of before) (outside_of after) (outcome_as o)
  bound end.Done ends e lasts = absurd e
  bound (end.BadWords n why) ends e lasts = absurd e
  bound (end.ReadFault n) ends e lasts = read_failed n ends
  bound (end.Missing n) ends e lasts = stopped (end.Missing n) ends tt
  bound (end.TooLong n) ends e lasts = stopped (end.TooLong n) ends tt
  bound (end.BadInput n why) ends e lasts = stopped (end.BadInput n why) ends tt
  bound (end.TooDense count) ends e lasts = stopped (end.TooDense count) ends tt
  bound (end.Refused n why) ends e lasts = absurd e
  bound (end.WriteFault n) ends e lasts = absurd e
  bound end.Memory ends e lasts = absurd (lasts refl)

pub ended_before : ChainsEndBeforeTheyBegin
ended_before read line c seen seen' files bytes a before after o ends lasts = bound read line c seen seen' files bytes a before after o ends (early c seen seen' o ends.stops) lasts
