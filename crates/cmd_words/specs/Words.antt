-- The chain that the words of a command line ask for, or the first word that is refused and why.
use Rattle.std.specs.Prelude.{ℕ, ◌+◌, false, not, nat_lt, List, [], ◌∷◌, map, length, codes, Option, Some, None, is_some, unwrap_or, Result, Ok, Err, if◌then◌else◌}
use Rattle.std.specs.Str.{bytes_eq}
use Rattle.cmd_words.specs.declared.fault.WordWhy.{WordWhy}
use Rattle.cmd_words.specs.declared.fault.WordWhy.TheVariants as why
use Rattle.cmd_words.specs.declared.word_groups.Word.{Word}
use Rattle.job_terms.specs.declared.job.SourceWord.{SourceWord}
use Rattle.job_terms.specs.declared.job.Owner.TheVariants as owner
use Rattle.cmd_words.specs.declared.commands.Keyword.{Keyword}
use Rattle.cmd_words.specs.Rows.{Text, Form, Row, row_of, import_form}
use Rattle.cmd_words.specs.Steps.{on_ok, each_step}
use Rattle.cmd_words.specs.Expressions.{Refusals}
use Rattle.cmd_words.specs.Texts.{is_command, is_standard}
use Rattle.cmd_words.specs.Quantities.{number_in}
use Rattle.cmd_words.specs.Groups.{Group, empty_group, value_in, argument_in, first_number}
use Rattle.cmd_words.specs.Options.{take_word}
use Rattle.cmd_words.specs.Chains.{SoFar, list_or_empty, lacks_argument, lacks_form, with_command}

-- what words say, or the number of the first refused word and why
abbrev pub Reading : Type 0 → Type 0
Reading A = Result A (ℕ × WordWhy)

abbrev pub at_word : {A : Type 0} → ℕ → Result A WordWhy → Reading A
at_word n (Ok v) = Ok v
at_word n (Err w) = Err (n, w)

-- words with their numbers, from n on
abbrev pub words_from : ℕ → List Text → List Word
words_from n [] = []
words_from n (t ∷ ts) = record { number = n; text = t } ∷ words_from (n + 1) ts

-- ## Groups

-- a command word, with the words up to the next one
pub record CommandGroup : Type 0 where
  pub word : Word
  pub rest : List Word

pub record Grouped : Type 0 where
  -- the words before the first command word
  pub first : List Word
  pub commands : List CommandGroup

abbrev pub put_word : Word → Grouped → Grouped
put_word w g =
    if is_command w.text then record { first = []; commands = record { word = w; rest = g.first } ∷ g.commands }
    else record { first = w ∷ g.first; commands = g.commands }

abbrev pub grouped : List Word → Grouped
grouped [] = record { first = []; commands = [] }
grouped (w ∷ ws) = put_word w (grouped ws)

-- ## Commands

abbrev pub take_words : Refusals → ℕ → Form → Group → List Word → Reading Group
take_words refuses places form g ws = each_step (λ (h : Group) (w : Word). at_word w.number (take_word refuses places form h w)) g ws

-- after its words: what is missing, and then a form that nothing tells
abbrev pub finished : SoFar → Keyword → ℕ → Group → Reading SoFar
finished s keyword n g =
    if lacks_argument keyword g then Err (n, why.MissingArgument)
    else if lacks_form keyword g then Err (first_number g, why.UnsupportedFile)
    else Ok (with_command s keyword g)

abbrev pub take_row : Refusals → ℕ → SoFar → ℕ → List Word → Option Row → Reading SoFar
take_row refuses places s n rest None = Err (n, why.UnknownCommand)
take_row refuses places s n rest (Some row) = on_ok (take_words refuses places row.form (empty_group s.reads_standard) rest) (finished s row.keyword n)

abbrev pub take_command : Refusals → ℕ → SoFar → CommandGroup → Reading SoFar
take_command refuses places s c =
    if bytes_eq c.word.text (codes "-i") then Err (c.word.number, why.LaterImport)
    else take_row refuses places s c.word.number c.rest (row_of c.word.text)

abbrev pub take_commands : Refusals → ℕ → SoFar → List CommandGroup → Reading SoFar
take_commands refuses places s cs = each_step (take_command refuses places) s cs

-- ## The import

-- without a first `-i`
abbrev pub without_import_word : List Word → List Word
without_import_word [] = []
without_import_word (w ∷ ws) = if bytes_eq w.text (codes "-i") then ws else w ∷ ws

abbrev pub places_in : Group → ℕ
places_in g = unwrap_or g.values.places 6

abbrev pub import_source : Option Text → Word → SourceWord
import_source fields w = record { name = w.text; standard = is_standard w.text; owner = owner.Import; string_fields = list_or_empty fields }

abbrev pub import_sources : Group → List SourceWord
import_sources g = map (import_source (value_in g (codes "string-fields"))) g.arguments

abbrev pub imported : Group → SoFar
imported g = record { sources = import_sources g; boxes = []; commands = []; reads_standard = g.reads_standard }

pub record ChainWords : Type 0 where
  pub places : ℕ
  pub so_far : SoFar

abbrev pub after_import : Refusals → List CommandGroup → Group → Reading ChainWords
after_import refuses commands g =
    if not (is_some (argument_in g)) then Err (1, why.NoInput)
    else on_ok (take_commands refuses (places_in g) (imported g) commands) (λ (s : SoFar). Ok (record { places = places_in g; so_far = s }))

abbrev pub read_groups : Refusals → Grouped → Reading ChainWords
read_groups refuses groups = on_ok (take_words refuses 6 import_form (empty_group false) groups.first) (after_import refuses groups.commands)

abbrev pub read_commands : Refusals → List Word → Reading ChainWords
read_commands refuses words = read_groups refuses (grouped (without_import_word words))

-- ## A made-up mosaic, and all words

pub data JobWords : Type 0 where
  synth : ℕ → ℕ → JobWords
  chain : ChainWords → JobWords

abbrev pub read_size : ℕ → Option ℕ → Reading JobWords
read_size seed None = Err (3, why.BadNumber)
read_size seed (Some n) = Ok (synth seed n)

abbrev pub read_seed : Option ℕ → Text → Reading JobWords
read_seed None size = Err (2, why.BadNumber)
read_seed (Some seed) size = read_size seed (number_in 1 300 size)

-- the words after `synth`
abbrev pub read_synth : List Text → Reading JobWords
read_synth [] = Err (1, why.MissingArgument)
read_synth (seed ∷ []) = Err (1, why.MissingArgument)
read_synth (seed ∷ size ∷ []) = read_seed (number_in 0 4294967295 seed) size
read_synth (seed ∷ size ∷ more ∷ rest) = Err (4, why.ExtraWord)

abbrev pub read_chain_words : Refusals → List Text → Reading JobWords
read_chain_words refuses words = on_ok (read_commands refuses (words_from 1 words)) (λ (c : ChainWords). Ok (chain c))

abbrev pub read_job : Refusals → List Text → Reading JobWords
read_job refuses [] = read_chain_words refuses []
read_job refuses (w ∷ ws) = if bytes_eq w (codes "synth") then read_synth ws else read_chain_words refuses (w ∷ ws)

abbrev pub word_limit : ℕ
word_limit = 1000

abbrev pub read_words : Refusals → List Text → Reading JobWords
read_words refuses words = if nat_lt word_limit (length words) then Err (word_limit + 1, why.TooManyWords) else read_job refuses words
