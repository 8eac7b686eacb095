-- Counts that rose, seen from further back.
use Rattle.std.proofs.Common.{ℕ, Bool, true, false, List, [], ◌∷◌, Option, Some, None, MatchBool, sym, ◌∙◌, subst}
use Rattle.io_core.specs.Contents.{Content, FileMap, SameFiles}
use Rattle.io_core.specs.Counts.{Rose}
use Rattle.io_core.specs.Whole.{MissesName}
use Rattle.io_core.proofs.Reading.{NeverFell-refl}
use Rattle.io_core.proofs.FileReading.{Rose-earlier}
use Rattle.job_terms.specs.declared.job.Action.{Action}
use Rattle.job_terms.specs.declared.job.Action.TheVariants as action
use Rattle.job_terms.specs.declared.job.SourceWord.{SourceWord}
use Rattle.run_sources.specs.Budget.{whole_budget}
use Rattle.geojson_io.specs.LayerContent.{LayerContent}
use Rattle.word_laws.proofs.Shown.{TypeOf}
use Rattle.run_sources.specs.Sources.{SourcesSeen, Grew, SourcesGive}
use Rattle.run_sources.specs.Sources as sources
use Rattle.run_sources.proofs.Growing.{grew_same, grew_on}
use Rattle.run_chain.specs.Effects.{OutsideSeen, CountsGrew, WriteRose}

-- ## Sources

-- what may still be read, by the value that the sources' crate shows
abbrev pub Budget : Type 0
Budget = TypeOf whole_budget

-- no count falls while sources are read
pub given_grew : (places : ℕ) (ss : List SourceWord) (budget left : Budget) (seen after : SourcesSeen) (ls : List (List LayerContent)) → SourcesGive places ss budget seen left after ls → Grew seen after
given_grew places [] budget left seen after [] g = subst (λ (s : SourcesSeen). Grew seen s) (sym g.1) (grew_same seen)
given_grew places [] budget left seen after (l ∷ ls) g = absurd g
given_grew places (s ∷ ss) budget left seen after [] g = absurd g
given_grew places (s ∷ ss) budget left seen after (l ∷ ls) g = grew_on seen g.1 after g.3 (given_grew places ss g.0 left g.1 after ls g.4)

pub source_rose : (seen middle after : SourcesSeen) (s : SourceWord) → Grew seen middle → sources.SourceRose middle after s → sources.SourceRose seen after s
source_rose seen middle after s grew rose = go s.standard rose
  where
    go : (b : Bool) → MatchBool b (Rose middle.input_faults after.input_faults) (Rose (middle.file_faults s.name) (after.file_faults s.name))
        → MatchBool b (Rose seen.input_faults after.input_faults) (Rose (seen.file_faults s.name) (after.file_faults s.name))
    go true r = Rose-earlier seen.input_faults middle.input_faults after.input_faults grew.input_faults r
    go false r = Rose-earlier (seen.file_faults s.name) (middle.file_faults s.name) (after.file_faults s.name) (grew.file_faults s.name) r

misses_name : (a b : Option FileMap) (name : Content) (P Q : Type 0) → SameFiles a b → (P → Q) → MissesName b name P → MissesName a name Q
misses_name None None name P Q s f p = f p
misses_name None (Some y) name P Q s f p = absurd s
misses_name (Some x) None name P Q s f p = absurd s
misses_name (Some x) (Some y) name P Q s f p = sym (s name) ∙ p

pub source_missing : (seen middle after : SourcesSeen) (s : SourceWord) → Grew seen middle → sources.SourceMissing middle after s → sources.SourceMissing seen after s
source_missing seen middle after s grew missing = go s.standard missing
  where
    go : (b : Bool) → MatchBool b ⊥ (MissesName middle.files s.name (Rose (middle.file_faults s.name) (after.file_faults s.name)))
        → MatchBool b ⊥ (MissesName seen.files s.name (Rose (seen.file_faults s.name) (after.file_faults s.name)))
    go true r = r
    go false r = misses_name seen.files middle.files s.name (Rose (middle.file_faults s.name) (after.file_faults s.name)) (Rose (seen.file_faults s.name) (after.file_faults s.name)) grew.files (Rose-earlier (seen.file_faults s.name) (middle.file_faults s.name) (after.file_faults s.name) (grew.file_faults s.name)) r

-- ## Outputs

pub counts_grew : (a : OutsideSeen) → CountsGrew a a
counts_grew a = record { files = λ name. NeverFell-refl (a.file_faults name); stream = NeverFell-refl a.stream_faults }

-- the count of what the action writes rose
abbrev pub ActionRose : OutsideSeen → OutsideSeen → Action → Type 0
ActionRose before after (action.Write to standard form) = WriteRose standard to before after
ActionRose before after (action.Each a) = ⊥
ActionRose before after (action.Together a) = ⊥

write_rose : (standard : Bool) (name : Content) (before middle after : OutsideSeen) → CountsGrew before middle → WriteRose standard name middle after → WriteRose standard name before after
write_rose true name before middle after grew r = Rose-earlier before.stream_faults middle.stream_faults after.stream_faults grew.stream r
write_rose false name before middle after grew r = Rose-earlier (before.file_faults name) (middle.file_faults name) (after.file_faults name) (grew.files name) r

pub action_rose : (a : Action) (before middle after : OutsideSeen) → CountsGrew before middle → ActionRose middle after a → ActionRose before after a
action_rose (action.Write to standard form) before middle after grew r = write_rose standard to before middle after grew r
action_rose (action.Each a) before middle after grew r = r
action_rose (action.Together a) before middle after grew r = r
