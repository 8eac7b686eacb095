-- What is told of the sources of a run, and their faults as the model of a run names them.
use Rattle.std.specs.Prelude.{◌≡◌, Bool, false, List, [], ◌∷◌, Some, MatchBool, ⊤}
use Rattle.std.specs.List.{list_any}
use Rattle.io_core.specs.Contents.{Content, FileMap}
use Rattle.cmd_words.specs.Words.{JobWords, Reading}
use Rattle.job_terms.specs.declared.job.SourceWord.{SourceWord}
use Rattle.run_sources.specs.Sources.{SourcesSeen}
use Rattle.run_sources.specs.declared.fault.InputWhy.{InputWhy}
use Rattle.run_sources.specs.declared.fault.InputWhy.TheVariants as input
use Rattle.run_sources.specs.declared.fault.SourceFault.{SourceFault}
use Rattle.run_sources.specs.declared.fault.SourceFault.TheVariants as fault
use Rattle.chain_model.specs.Headline.{needed_files, needed_input}
use Rattle.chain_model.specs.Outcome as model

-- one element at most passes a test
abbrev pub HasAtMostOne : {A : Type 0} → (A → Bool) → List A → Type 0
HasAtMostOne test [] = ⊤
HasAtMostOne test (x ∷ xs) = MatchBool (test x) (list_any test xs ≡ false) (HasAtMostOne test xs)

-- standard input is a source once at most
abbrev pub IsReadOnce : List SourceWord → Type 0
IsReadOnce sources = HasAtMostOne (λ (s : SourceWord). s.standard) sources

-- files hold these contents and standard input these bytes, as far as they are sources of the words
pub record AreTold (words : Reading JobWords) (seen : SourcesSeen) (files : FileMap) (bytes : Content) : Type 0 where
  pub of_files : needed_files words seen.files ≡ Some files
  pub of_input : needed_input words seen.input ≡ Some bytes

-- ---- faults

abbrev pub input_as : InputWhy → model.InputWhy
input_as (input.Syntax at) = model.syntax at
input_as (input.Depth at) = model.depth at
input_as (input.Utf8 at) = model.utf8 at
input_as (input.Shape why feature) = model.shape why feature
input_as (input.Topo why place) = model.topo why place
input_as input.NoHeader = model.no_header
input_as (input.RepeatedName column) = model.repeated_name column
input_as (input.TooManyRows row) = model.too_many_rows row
input_as (input.UnequalRow row) = model.unequal_row row

abbrev pub fault_as : SourceFault → model.Outcome
fault_as (fault.ReadFault source) = model.read_fault source
fault_as (fault.Missing source) = model.missing source
fault_as (fault.TooLong source) = model.too_long source
fault_as (fault.BadInput source why) = model.bad_input source (input_as why)
fault_as fault.Memory = model.memory

-- contents bring the fault, and no failed read or want of memory
abbrev pub IsOfContents : SourceFault → Type 0
IsOfContents (fault.ReadFault source) = ⊥
IsOfContents (fault.Missing source) = ⊤
IsOfContents (fault.TooLong source) = ⊤
IsOfContents (fault.BadInput source why) = ⊤
IsOfContents fault.Memory = ⊥
