-- Laws of how runs end: faults are named as the model names them, and refused words end a run.
use Rattle.std.specs.Prelude.{◌≡◌, ℕ, ◌⊎◌, List, Err}
use Rattle.io_core.specs.Contents.{Content, FileMap}
use Rattle.snap_round.specs.declared.fault.SnapFault.TheVariants as snap
use Rattle.cmd_words.specs.declared.fault.WordFault.TheVariants as words
use Rattle.cmd_words.specs.declared.fault.WordWhy.{WordWhy}
use Rattle.run_sources.specs.Sources.{SourcesSeen}
use Rattle.run_sources.specs.declared.fault.SourceFault.{SourceFault}
use Rattle.run_outcome.specs.Ends.{of_drawing, of_sources, of_words}
use Rattle.run_outcome.specs.declared.outcome.Outcome.{Outcome}
use Rattle.run_outcome.specs.declared.outcome.Outcome.TheVariants as end
use Rattle.run_chain.specs.Effects.{OutsideSeen}
use Rattle.run_chain.specs.Running.{WordsRun}
use Rattle.word_model.specs.Words.{words_say}
use Rattle.chain_model.specs.Headline.{Binds, Outside}
use Rattle.chain_model.specs.Outcome as model
use Rattle.chain_model.specs.Sources.{AreReadings, Readings}
use Rattle.headline_laws.specs.ToldSources.{fault_as}
use Rattle.headline_laws.specs.Outcomes.{outcome_as}

-- ---- law: the end that a fault of words, of a source or of the drawing brings has the name that the model gives it
pub record FaultsAreNamed : Type 0 where
  pub at_words : (n : ℕ) (why : WordWhy) → outcome_as (of_words (words.Bad n why)) ≡ model.bad_words n why
  pub at_sources : (fault : SourceFault) → outcome_as (of_sources fault) ≡ fault_as fault
  pub at_drawing : (count : ℕ) → outcome_as (of_drawing (snap.TooDense count)) ≡ model.too_dense count

-- files and the standard stream before or after a run
abbrev pub outside_of : OutsideSeen → Outside
outside_of seen = record { files = seen.files; stream = seen.stream }

-- refused words are answered, or want of memory is
abbrev pub IsOfWords : ℕ → WordWhy → Outcome → Type 0
IsOfWords n why o = (o ≡ end.BadWords n why) ⊎ (o ≡ end.Memory)

-- ---- law: refused words end a run, and its answer binds what is there afterwards, whatever files and standard input
-- hold
abbrev pub RefusedWordsEndTheRun : Type 0
RefusedWordsEndTheRun = (read : Readings) → AreReadings read → (line : List Content) (n : ℕ) (why : WordWhy) → words_say read.refusals line ≡ Err (n, why) →
    (seen seen' : SourcesSeen) (before after : OutsideSeen) (o : Outcome) → WordsRun line seen seen' before after o →
    IsOfWords n why o × ((files : FileMap) (bytes : Content) → Binds read (words_say read.refusals line) files bytes (outside_of before) (outside_of after) (outcome_as o))
