-- Reading the sources of a run: what was read of files and of standard input, and why the first source that isn't
-- accepted ends the run.
use Rattle.std.specs.Prelude.{◌≡◌, ℕ, ◌+◌, ◌<◌, ◌≤◌, ⊤, List, [], ◌∷◌, take, length, slice_get, Option, Some, Result, Ok, Err, MatchOption, MatchBool}
use Rattle.io_core.specs.Counts.{raised, Rose, NeverFell, NoneFell}
use Rattle.io_core.specs.Contents.{Content, FileMap, SameFiles}
use Rattle.io_core.specs.Whole.{AtName, MissesName}
use Rattle.io_core.specs.declared.outside.Files as Files
use Rattle.io_core.specs.declared.outside.Source as Source
use Rattle.io_core.specs.declared.whole.FileStop.{FileStop}
use Rattle.io_core.specs.declared.whole.FileStop.TheVariants as stop
use Rattle.geojson_io.specs.LayerContent.{LayerContent}
use Rattle.job_terms.specs.declared.job.SourceWord.{SourceWord}
use Rattle.run_sources.specs.Budget.{whole_budget, budget_after}
use Rattle.run_sources.specs.Decoding.{Decodes}
use Rattle.run_sources.specs.declared.decoding.DecodeStop.TheVariants.{Refused}
use Rattle.run_sources.specs.declared.sources.Budget.{Budget}
use Rattle.run_sources.specs.declared.fault.InputWhy.{InputWhy}
use Rattle.run_sources.specs.declared.fault.SourceFault.{SourceFault}
use Rattle.run_sources.specs.declared.fault.SourceFault.TheVariants.{ReadFault, Missing, TooLong, BadInput, Memory}

-- files and standard input, as far as they tell what they hold, with their counts of failed reads and the numbers of
-- bytes read
pub record SourcesSeen : Type 0 where
  pub files : Option FileMap
  pub file_faults : Content → ℕ
  pub file_bytes : ℕ
  pub input : Option Content
  pub input_faults : ℕ
  pub input_bytes : ℕ

abbrev pub sources_seen : {T U : Type 0} → Files.Ghosts T → Source.Ghosts U → T → U → SourcesSeen
sources_seen F I files input = record {
  files = F.held files;
  file_faults = F.read_faults files;
  file_bytes = F.bytes_read files;
  input = I.left input;
  input_faults = I.faults input;
  input_bytes = I.bytes_read input;
}

-- the contents of files are as before, and no count fell
pub record Grew (before after : SourcesSeen) : Type 0 where
  pub files : SameFiles before.files after.files
  pub file_faults : NoneFell before.file_faults after.file_faults
  pub file_bytes : NeverFell before.file_bytes after.file_bytes
  pub input_faults : NeverFell before.input_faults after.input_faults
  pub input_bytes : NeverFell before.input_bytes after.input_bytes

-- a fact of the bytes of a source, where they are told: those of its file, or those left in standard input
abbrev pub AtSource : SourcesSeen → SourceWord → (Content → Type 0) → Type 0
AtSource seen source fact = MatchBool source.standard (MatchOption seen.input ⊤ fact) (AtName seen.files source.name ⊥ fact)

-- the count of the source's failed reads rose
abbrev pub SourceRose : SourcesSeen → SourcesSeen → SourceWord → Type 0
SourceRose before after source = MatchBool source.standard (Rose before.input_faults after.input_faults) (Rose (before.file_faults source.name) (after.file_faults source.name))

-- told files lack its name, or, where they don't tell, its count rose; standard input is never missing
abbrev pub SourceMissing : SourcesSeen → SourcesSeen → SourceWord → Type 0
SourceMissing before after source = MatchBool source.standard ⊥ (MissesName before.files source.name (Rose (before.file_faults source.name) (after.file_faults source.name)))

-- more than `limit` bytes were read
abbrev pub ReadsMore : ℕ → SourcesSeen → SourcesSeen → SourceWord → Type 0
ReadsMore limit before after source = MatchBool source.standard (raised (limit + 1) before.input_bytes ≤ after.input_bytes) (raised (limit + 1) before.file_bytes ≤ after.file_bytes)

-- just `count` bytes were read
abbrev pub ReadsCount : ℕ → SourcesSeen → SourcesSeen → SourceWord → Type 0
ReadsCount count before after source = MatchBool source.standard (after.input_bytes ≡ raised count before.input_bytes) (after.file_bytes ≡ raised count before.file_bytes)

-- a file that is read leaves standard input as it was
abbrev pub LeavesInput : SourcesSeen → SourcesSeen → SourceWord → Type 0
LeavesInput before after source = MatchBool source.standard ⊤ (after.input ≡ before.input)

-- what reading a source, `limit` bytes at most, answers
abbrev pub BytesMean : SourceWord → ℕ → SourcesSeen → SourcesSeen → Result Content FileStop → Type 0
BytesMean source limit before after (Ok bytes) = AtSource before source (λ there. bytes ≡ there) × (length bytes ≤ limit) × ReadsCount (length bytes) before after source × LeavesInput before after source
BytesMean source limit before after (Err stop.Fault) = SourceRose before after source
BytesMean source limit before after (Err stop.Missing) = SourceMissing before after source
BytesMean source limit before after (Err stop.TooLong) = AtSource before source (λ there. limit < length there) × ReadsMore limit before after source
BytesMean source limit before after (Err stop.Memory) = ⊤

abbrev pub stopped : FileStop → ℕ → SourceFault
stopped stop.Fault source = ReadFault source
stopped stop.Missing source = Missing source
stopped stop.TooLong source = TooLong source
stopped stop.Memory source = Memory

-- the bytes of the source were read and counted, and are refused for this reason
pub record IsRefusedInput (places : ℕ) (budget : Budget) (seen seen' : SourcesSeen) (source : SourceWord) (why : InputWhy) : Type 0 where
  pub bytes : Content
  pub there : AtSource seen source (λ content. bytes ≡ content)
  pub within : length bytes ≤ budget.bytes
  pub counted : ReadsCount (length bytes) seen seen' source
  pub refused : Decodes places budget.room source bytes (Err (Refused why))

-- why a source with this number, read within the budget, is the last that is read
abbrev pub SourceStops : ℕ → Budget → ℕ → SourceWord → SourcesSeen → SourcesSeen → SourceFault → Type 0
SourceStops places budget number source before after (ReadFault n) = (n ≡ number) × SourceRose before after source
SourceStops places budget number source before after (Missing n) = (n ≡ number) × SourceMissing before after source
SourceStops places budget number source before after (TooLong n) = (n ≡ number) × AtSource before source (λ there. budget.bytes < length there) × ReadsMore budget.bytes before after source
SourceStops places budget number source before after (BadInput n why) = (n ≡ number) × IsRefusedInput places budget before after source why
SourceStops places budget number source before after Memory = ⊤

-- ---- the sources before it

-- the bytes of the source were read and counted, gave these layers, and this may be read after them
pub record SourceGives (places : ℕ) (source : SourceWord) (budget left : Budget) (seen seen' : SourcesSeen) (layers : List LayerContent) : Type 0 where
  pub bytes : Content
  pub there : AtSource seen source (λ content. bytes ≡ content)
  pub within : length bytes ≤ budget.bytes
  pub counted : ReadsCount (length bytes) seen seen' source
  pub leaves : LeavesInput seen seen' source
  pub decoded : Decodes places budget.room source bytes (Ok layers)
  pub left_after : left ≡ budget_after budget (length bytes) layers

-- sources that were read in order, each with what the ones before it left, and the layers of each
abbrev pub SourcesGive : ℕ → List SourceWord → Budget → SourcesSeen → Budget → SourcesSeen → List (List LayerContent) → Type 0
SourcesGive places [] budget seen left after [] = (left ≡ budget) × (after ≡ seen)
SourcesGive places [] budget seen left after (layers ∷ more) = ⊥
SourcesGive places (source ∷ sources) budget seen left after [] = ⊥
SourcesGive places (source ∷ sources) budget seen left after (layers ∷ more) =
    (past : Budget) × (middle : SourcesSeen) × SourceGives places source budget past seen middle layers × Grew seen middle × SourcesGive places sources past middle left after more

-- all sources of a run gave layers
abbrev pub GivesAll : ℕ → List SourceWord → SourcesSeen → SourcesSeen → List (List LayerContent) → Type 0
GivesAll places sources before after layers = (left : Budget) × SourcesGive places sources whole_budget before left after layers

-- the sources before one with this number gave layers, and with what they left it ends the run
pub record StopsAtSource (places : ℕ) (sources : List SourceWord) (before after : SourcesSeen) (fault : SourceFault) : Type 0 where
  pub place : ℕ
  pub source : SourceWord
  pub is_there : slice_get sources place ≡ Some source
  pub layers : List (List LayerContent)
  pub left : Budget
  -- what was seen when its reading began
  pub middle : SourcesSeen
  pub given : SourcesGive places (take place sources) whole_budget before left middle layers
  pub grew : Grew middle after
  pub stops : SourceStops places left (place + 1) source middle after fault
