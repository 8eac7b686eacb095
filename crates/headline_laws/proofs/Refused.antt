-- Faults are named alike, and refused words end a run.
use Rattle.std.proofs.Common.{◌≡◌, inl, inr, ℕ, [], Result, Ok, Err, refl, sym, ap, ◌∙◌, subst}
use Rattle.io_core.specs.Contents.{Content, FileMap}
use Rattle.cmd_words.specs.declared.fault.WordFault.{WordFault}
use Rattle.cmd_words.specs.declared.fault.WordFault.TheVariants as words
use Rattle.cmd_words.specs.declared.fault.WordWhy.{WordWhy}
use Rattle.job_terms.specs.declared.job.Job.{Job}
use Rattle.cmd_words.specs.Tells.{Tells, FitsJob}
use Rattle.cmd_words.specs.Words.{Reading, JobWords}
use Rattle.run_sources.specs.Sources.{SourcesSeen}
use Rattle.run_sources.specs.declared.fault.SourceFault.{SourceFault}
use Rattle.run_sources.specs.declared.fault.SourceFault.TheVariants as fault
use Rattle.run_outcome.specs.Ends.{of_sources}
use Rattle.run_outcome.specs.declared.outcome.Outcome.{Outcome}
use Rattle.run_outcome.specs.declared.outcome.Outcome.TheVariants as end
use Rattle.run_chain.specs.Effects.{OutsideSeen}
use Rattle.run_chain.specs.Running.{JobRuns}
use Rattle.word_model.specs.Words.{words_say}
use Rattle.chain_model.specs.Headline.{Binds}
use Rattle.chain_model.specs.Sources.{Readings}
use Rattle.headline_laws.specs.ToldSources.{fault_as}
use Rattle.headline_laws.specs.Outcomes.{outcome_as}
use Rattle.headline_laws.specs.Refused.{FaultsAreNamed, IsOfWords, RefusedWordsEndTheRun, outside_of}
use Rattle.headline_laws.proofs.Said.{said_by}
use Rattle.headline_laws.proofs.Unchanged.{unchanged}

-- ## Names

source_named : (f : SourceFault) → outcome_as (of_sources f) ≡ fault_as f
source_named (fault.ReadFault n) = refl
source_named (fault.Missing n) = refl
source_named (fault.TooLong n) = refl
source_named (fault.BadInput n why) = refl
source_named fault.Memory = refl

pub faults_named : FaultsAreNamed
faults_named = record { at_words = λ n why. refl; at_sources = source_named; at_drawing = λ count. refl }

-- ## Refused words

module _ (read : Readings) (n : ℕ) (why : WordWhy) (files : FileMap) (bytes : Content) (before after : OutsideSeen) where
  abbrev Bound : Reading JobWords → Outcome → Type 0
  Bound said o = Binds read said files bytes (outside_of before) (outside_of after) (outcome_as o)

  bound_refused : after ≡ before → Bound (Err (n, why)) (end.BadWords n why)
  bound_refused kept = record { effects = []; told = (refl, refl); held = unchanged before after kept }

  bound_memory : after ≡ before → Bound (Err (n, why)) end.Memory
  bound_memory kept = record { effects = []; begins = inl refl; held = unchanged before after kept }

module _ (n : ℕ) (why : WordWhy) (seen seen' : SourcesSeen) (before after : OutsideSeen) (o : Outcome) where
  -- what is answered, and that nothing has changed
  record Refused : Type 0 where
    answer : IsOfWords n why o
    kept : after ≡ before

  refused_by : (answer : Result Job WordFault) → Tells FitsJob (Err (n, why)) answer → JobRuns answer seen seen' before after o → Refused
  refused_by (Ok j) t r = absurd (let e : Err (n, why) ≡ Ok t.0 = t.1 in cc)
  refused_by (Err (words.Bad m other)) t r =
      let same : (n, why) ≡ (m, other) = cc in
      record { answer = inl (r.ends ∙ ap (λ (p : ℕ × WordWhy). end.BadWords p.0 p.1) (sym same)); kept = r.outside }
  refused_by (Err words.Memory) t r = record { answer = inr r.ends; kept = r.outside }

pub refused_words : RefusedWordsEndTheRun
refused_words read right line n why said seen seen' before after o run = (here.answer, λ files bytes. bound files bytes)
  where
    here : Refused n why seen seen' before after o
    here = refused_by n why seen seen' before after o run.answer (subst (λ (r : Reading JobWords). Tells FitsJob r run.answer) said (said_by read.refusals right.expressions line run.answer run.reads)) run.runs

    bound : (files : FileMap) (bytes : Content) → Binds read (words_say read.refusals line) files bytes (outside_of before) (outside_of after) (outcome_as o)
    bound files bytes = subst (λ (r : Reading JobWords). Binds read r files bytes (outside_of before) (outside_of after) (outcome_as o)) (sym said) (go here.answer)
      where
        go : IsOfWords n why o → Binds read (Err (n, why)) files bytes (outside_of before) (outside_of after) (outcome_as o)
        go (inl e) = subst (Bound read n why files bytes before after (Err (n, why))) (sym e) (bound_refused read n why files bytes before after here.kept)
        go (inr e) = subst (Bound read n why files bytes before after (Err (n, why))) (sym e) (bound_memory read n why files bytes before after here.kept)
