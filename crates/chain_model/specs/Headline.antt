-- What a run is bound to: its answer, what files and the standard stream hold afterwards, and the causes of answers.
use Rattle.std.specs.Prelude.{◌≡◌, ◌≢◌, ◌⊎◌, ℕ, ◌+◌, ◌<◌, ◌≤◌, Bool, true, false, List, [], ◌∷◌, ◌++◌, take, Option, Some, None, MatchOption, Ok, Err, slice_get, MatchBool, ⊤, if◌then◌else◌, not, ◌&&◌, is_some}
use Rattle.std.specs.List.{list_any}
use Rattle.std.specs.Io.KnownBytes.{Appends}
use Rattle.std.specs.Str.{bytes_eq}
use Rattle.io_core.specs.Contents.{Content, FileMap}
use Rattle.io_core.specs.Counts.{Rose, last}
use Rattle.io_core.specs.Whole.{MissesName}
use Rattle.geojson_io.specs.LayerContent.{LayerContent}
use Rattle.table_terms.specs.Names.{Text}
use Rattle.cmd_words.specs.declared.action_words.ActionWords.{ActionWords}
use Rattle.cmd_words.specs.declared.action_words.ActionWords.TheVariants as asked
use Rattle.cmd_words.specs.declared.action_words.CommandWords.{CommandWords}
use Rattle.cmd_words.specs.Words.{JobWords, Reading, synth, chain}
use Rattle.job_terms.specs.declared.job.Action.TheVariants as action
use Rattle.job_terms.specs.declared.job.SourceWord.{SourceWord}
use Rattle.chain_model.specs.Outcome.{Outcome, done, bad_words, read_fault, missing, too_long, bad_input, too_dense, refused, write_fault, memory}
use Rattle.chain_model.specs.Sources.{Readings, byte_limit, imported, whole_room}
use Rattle.chain_model.specs.Messages.{MessagesSeen, TellsOutcome}
use Rattle.chain_model.specs.Running.{Effect, WordsTell, link_limit}
use Rattle.word_model.specs.Words.{words_say}

-- ---- what effects leave

-- what a name holds after an effect, and after effects: the last text given to it
abbrev pub name_after : Option Text → Text → Text → Option Text → Option Text
name_after None text name was = was
name_after (Some to) text name was = if bytes_eq to name then Some text else was

abbrev pub held_after : List Effect → Text → Option Text → Option Text
held_after [] name was = was
held_after (e ∷ es) name was = held_after es name (name_after e.to e.text name was)

-- what the standard stream gains
abbrev pub streamed : List Effect → Text
streamed [] = []
streamed (e ∷ es) = elim e.to [ None ↦ e.text ++ streamed es | Some name ↦ streamed es ]

-- what is there before or after a run: files and the standard stream, where they tell it
pub record Outside : Type 0 where
  pub files : Option FileMap
  pub stream : Option Content

-- told files stay told, and each name goes from what it held to what it holds
abbrev pub EachName : Option FileMap → Option FileMap → (Text → Option Text → Option Text → Type 0) → Type 0
EachName None after goes = ⊤
EachName (Some before) None goes = ⊥
EachName (Some before) (Some after) goes = (name : Text) → goes name (before name) (after name)

-- these effects came about, and nothing else
pub record HoldsAfter (before after : Outside) (effects : List Effect) : Type 0 where
  pub files : EachName before.files after.files (λ name was now. now ≡ held_after effects name was)
  pub stream : Appends before.stream after.stream (streamed effects)

-- ---- the answer

-- the first k sources of the words are accepted
abbrev pub AcceptsFirst : Readings → Reading JobWords → FileMap → Content → ℕ → Type 0
AcceptsFirst read (Ok (chain w)) files input k = (layers : List (List LayerContent)) × (imported read w.places files input 0 whole_room 1 (take k w.so_far.sources) ≡ Ok layers)
AcceptsFirst read (Ok (synth seed n)) files input k = ⊥
AcceptsFirst read (Err e) files input k = ⊥

-- `words` is what the words say; files and standard input hold `sources` and `input`, as far as they are sources of the
-- run
module _ (read : Readings) (words : Reading JobWords) (sources : FileMap) (input : Content) where
  -- The answer is the stated one, each output is held as stated, and nothing else has changed.
  pub record RunMeans (before after : Outside) (outcome : Outcome) : Type 0 where
    pub effects : List Effect
    pub told : WordsTell read sources input words outcome effects
    pub held : HoldsAfter before after effects

  -- a first part of the effects that the run would have
  pub record BeginsLike (effects : List Effect) : Type 0 where
    pub outcome : Outcome
    pub rest : List Effect
    pub told : WordsTell read sources input words outcome (effects ++ rest)

  -- reading source n failed: the sources before it are accepted, and nothing has changed
  pub record StopsInRead (before after : Outside) (n : ℕ) : Type 0 where
    pub earlier : ℕ
    pub number : n ≡ earlier + 1
    pub accepted : AcceptsFirst read words sources input earlier
    pub held : HoldsAfter before after []

  -- at want of memory no output is held, or a first part of those that the run would have, each whole
  pub record StopsForMemory (before after : Outside) : Type 0 where
    pub effects : List Effect
    pub begins : (effects ≡ []) ⊎ BeginsLike effects
    pub held : HoldsAfter before after effects

  -- a file whose writing failed is as it was, or holds a first part of its text
  abbrev pub IsCutOff : Option Text → Option Text → Text → Type 0
  IsCutOff was now text = (now ≡ was) ⊎ ((part rest : Text) × (now ≡ Some part) × (part ++ rest ≡ text))

  abbrev pub GoesCutOff : List Effect → Effect → Text → Option Text → Option Text → Type 0
  GoesCutOff effects last name was now =
      (Some name ≢ last.to → now ≡ held_after effects name was) × (Some name ≡ last.to → IsCutOff (held_after effects name was) now last.text)

  -- a write failed: the outputs before it are held, and of its own text a first part
  pub record StopsInWrite (before after : Outside) (command : ℕ) : Type 0 where
    pub effects : List Effect
    pub last : Effect
    pub begins : BeginsLike (effects ++ last ∷ [])
    pub is_last : last.command ≡ command
    pub files : EachName before.files after.files (GoesCutOff effects last)
    pub stream : (part rest : Text) × MatchOption last.to (part ++ rest ≡ last.text) (λ name. part ≡ []) × Appends before.stream after.stream (streamed effects ++ part)

  -- What is bound for each answer: a stated one, or one of the three that the outside or memory brings.
  abbrev pub Binds : Outside → Outside → Outcome → Type 0
  Binds before after memory = StopsForMemory before after
  Binds before after (read_fault n) = StopsInRead before after n
  Binds before after (write_fault command) = StopsInWrite before after command
  Binds before after outcome = RunMeans before after outcome

-- ---- the sources that the answer rests on

abbrev pub sources_of : Reading JobWords → List SourceWord
sources_of (Ok (chain w)) = w.so_far.sources
sources_of (Ok (synth seed n)) = []
sources_of (Err e) = []

-- what files, or standard input, hold, where they tell it or are no source of the run
abbrev pub needed : {A : Type 0} → (SourceWord → Bool) → Reading JobWords → A → Option A → Option A
needed is_source words none (Some contents) = Some contents
needed is_source words none None = if list_any is_source (sources_of words) then None else Some none

abbrev pub needed_files : Reading JobWords → Option FileMap → Option FileMap
needed_files words told = needed (λ s. not s.standard) words (λ name. None) told

abbrev pub needed_input : Reading JobWords → Option Content → Option Content
needed_input words told = needed (λ s. s.standard) words [] told

abbrev pub are_told : Reading JobWords → Option FileMap → Option Content → Bool
are_told words files input = is_some (needed_files words files) && is_some (needed_input words input)

-- Where the sources of the run are told, its answer binds what is there afterwards.
abbrev pub Headline : Readings → Reading JobWords → Option Content → Outside → Outcome → Outside → Type 0
Headline read words input before outcome after =
    MatchOption (needed_files words before.files) ⊤ (λ files.
    MatchOption (needed_input words input) ⊤ (λ input.
    Binds read words files input before after outcome))

-- Told or not: words, sources and a drawing that end a run leave files and the standard stream as they were.
abbrev pub Unwritten : Outside → Outside → Outcome → Type 0
Unwritten before after done = ⊤
Unwritten before after (refused n why) = ⊤
Unwritten before after (write_fault n) = ⊤
Unwritten before after memory = ⊤
Unwritten before after outcome = HoldsAfter before after []

-- ---- causes of answers

-- the counts of the outside before or after a run
pub record Counts : Type 0 where
  pub reads : Text → ℕ
  pub writes : Text → ℕ
  pub input : ℕ
  pub output : ℕ
  -- the numbers of bytes read from files and from standard input
  pub file_bytes : ℕ
  pub input_bytes : ℕ

-- the count of a source rose: of standard input, or the read count under its name
abbrev pub SourceRose : Counts → Counts → SourceWord → Type 0
SourceRose before after s = MatchBool s.standard (Rose before.input after.input) (Rose (before.reads s.name) (after.reads s.name))

-- the count of an output rose: of the standard stream, or the write count under its name
abbrev pub WriteRose : Counts → Counts → ActionWords → Type 0
WriteRose before after (asked.Whole (action.Write to true form)) = Rose before.output after.output
WriteRose before after (asked.Whole (action.Write to false form)) = Rose (before.writes to) (after.writes to)
WriteRose before after _ = ⊥

-- element n of a list, from 1, has the property
abbrev pub HasAt : {A : Type 0} → List A → ℕ → (A → Type 0) → Type 0
HasAt {A} xs n P = (k : ℕ) × (x : A) × (n ≡ k + 1) × (slice_get xs k ≡ Some x) × P x

-- source n failed, and command n failed to write
abbrev pub SourceFailed : Counts → Counts → Reading JobWords → ℕ → Type 0
SourceFailed before after words n = HasAt (sources_of words) n (SourceRose before after)

abbrev pub WriteFailed : Counts → Counts → Reading JobWords → ℕ → Type 0
WriteFailed before after (Ok (chain w)) n = HasAt w.so_far.commands n (λ (c : CommandWords). WriteRose before after c.action)
WriteFailed before after (Ok (synth seed m)) n = (n ≡ 1) × Rose before.output after.output
WriteFailed before after (Err e) n = ⊥

-- more bytes were read than the sources of a run may have, or a number of bytes stands at its last value
abbrev pub ReadTooMuch : Counts → Counts → Type 0
ReadTooMuch before after =
    (before.file_bytes + before.input_bytes + byte_limit < after.file_bytes + after.input_bytes) ⊎ ((last ≤ after.file_bytes) ⊎ (last ≤ after.input_bytes))

-- source n is a file: told files lack its name, or, where they don't tell, its count rose
abbrev pub SourceMissing : Option FileMap → Counts → Counts → SourceWord → Type 0
SourceMissing told before after s = MatchBool s.standard ⊥ (MissesName told s.name (Rose (before.reads s.name) (after.reads s.name)))

-- the words are not refused
abbrev pub AreAccepted : Reading JobWords → Type 0
AreAccepted words = (w : JobWords) × (words ≡ Ok w)

-- an element has number n, from 1
abbrev pub HasNumber : {A : Type 0} → List A → ℕ → Type 0
HasNumber xs n = HasAt xs n (λ x. ⊤)

abbrev pub commands_of : Reading JobWords → List CommandWords
commands_of (Ok (chain w)) = w.so_far.commands
commands_of (Ok (synth seed n)) = []
commands_of (Err e) = []

-- Whether the sources are told or not: BadWords is answered only of the words that are refused, for just that, and each
-- other answer but Memory only of words that are accepted. A fault of reading or writing needs that its count rose, and
-- Missing a name that told files lack, or else a count that rose. TooLong needs that too much was read, where the
-- sources are not all told, and TooDense a count past the limit. Whatever is told of a source, or of a command, has the
-- number of one. Nothing is asked of Memory.
abbrev pub HasCause : Reading JobWords → Option FileMap → Option Content → Counts → Counts → Outcome → Type 0
HasCause words files input before after done = AreAccepted words
HasCause words files input before after (bad_words n why) = words ≡ Err (n, why)
HasCause words files input before after (read_fault n) = SourceFailed before after words n
HasCause words files input before after (missing n) = HasAt (sources_of words) n (SourceMissing files before after)
HasCause words files input before after (too_long n) = HasNumber (sources_of words) n × MatchBool (are_told words files input) ⊤ (ReadTooMuch before after)
HasCause words files input before after (bad_input n why) = HasNumber (sources_of words) n
HasCause words files input before after (too_dense count) = AreAccepted words × (link_limit < count)
HasCause words files input before after (refused n why) = HasNumber (commands_of words) n
HasCause words files input before after (write_fault n) = WriteFailed before after words n
HasCause words files input before after memory = ⊤

-- ---- completeness

-- no count of a source or of an output of the run rose
pub record NothingFailed (before after : Counts) (words : Reading JobWords) : Type 0 where
  pub sources : (n : ℕ) → SourceFailed before after words n → ⊥
  pub outputs : (n : ℕ) → WriteFailed before after words n → ⊥

-- The words and contents tell Done, the sources are told, and nothing failed: then the answer is Done, or Memory.
abbrev pub IsComplete : Readings → Reading JobWords → Option Content → Outside → Counts → Counts → Outcome → Type 0
IsComplete read words input before counts counts' outcome = (files : FileMap) (bytes : Content) (effects : List Effect) →
    needed_files words before.files ≡ Some files → needed_input words input ≡ Some bytes → WordsTell read files bytes words done effects →
    NothingFailed counts counts' words → (outcome ≡ done) ⊎ (outcome ≡ memory)

-- ---- the whole

-- what is seen of the outside before or after a run, as far as it is told
pub record Seen : Type 0 where
  pub outside : Outside
  pub input : Option Content
  pub messages : MessagesSeen
  pub counts : Counts

-- All that binds a run of these words: what its answer means and leaves unwritten, its cause, when it has to be Done,
-- and its message.
pub record IsRunOf (read : Readings) (words : List Text) (before after : Seen) (outcome : Outcome) : Type 0 where
  pub means : Headline read (words_say read.refusals words) before.input before.outside outcome after.outside
  pub unwritten : Unwritten before.outside after.outside outcome
  pub cause : HasCause (words_say read.refusals words) before.outside.files before.input before.counts after.counts outcome
  pub complete : IsComplete read (words_say read.refusals words) before.input before.outside before.counts after.counts outcome
  pub message : TellsOutcome outcome before.messages after.messages
