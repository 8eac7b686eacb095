-- What the words of a command line ask for, or the first word that is refused and why.
use Rattle.std.specs.Prelude.{ℕ, ◌+◌, Bool, true, false, not, ◌&&◌, ◌||◌, ◌==◌, nat_lt, List, [], ◌∷◌, ◌++◌, length, codes, Option, Some, None, is_some, unwrap_or, option_and_then, Result, Ok, Err, if◌then◌else◌}
use Rattle.std.specs.List.{enumerate_from, flat_map, list_any}
use Rattle.std.specs.Str.{bytes_eq}
use Rattle.grid_base.specs.Grid.{Corners}
use Rattle.table_terms.specs.Names.{Text, has_name}
use Rattle.table_terms.specs.Refusals.{on_ok, first_refusal}
use Rattle.cmd_words.specs.Boxes.{box_of_text, places_of}
use Rattle.cmd_words.specs.Quantities.{area_units}
use Rattle.cmd_words.specs.Calculations.{calculations_of}
use Rattle.cmd_words.specs.Chains.{SoFar}
use Rattle.cmd_words.specs.Expressions as kind
use Rattle.cmd_words.specs.Expressions.{Refusals}
use Rattle.cmd_words.specs.Texts.{at_first_equals, has_empty_piece, is_command, is_empty, is_standard, names_file}
use Rattle.cmd_words.specs.Values.{form_named, pair_of, renames_of, rule_of}
use Rattle.cmd_words.specs.Words.{JobWords, Reading, synth, chain}
use Rattle.cmd_words.specs.declared.fault.ExprWhy.{ExprWhy}
use Rattle.cmd_words.specs.declared.fault.WordWhy.{WordWhy}
use Rattle.cmd_words.specs.declared.fault.WordWhy.TheVariants as why
use Rattle.job_terms.specs.declared.job.Origin.{Origin}
use Rattle.job_terms.specs.declared.job.Origin.TheVariants as origin
use Rattle.job_terms.specs.declared.job.Owner.TheVariants as owner
use Rattle.job_terms.specs.declared.job.SourceWord.{SourceWord}
use Rattle.word_model.specs.CommandTable.{Item, option, bare, argument, Said, ValueForm, a_text, a_list, two_names, a_precision, a_rule, a_format, a_box, an_expression, a_gap, a_least_area, one_or_more, zero_or_more, calculations, ArgumentForm, nothing, files, source, list, expression, assignments, renames, Line, CommandLine, value_in, has_option, has_bare, has_argument, argument_text, list_or_empty, target_of, form_in, number_in, count_of, import_line, line_of, form_of}

-- ---- what a word is in its group

abbrev pub begins_with_equals : Text → Bool
begins_with_equals [] = false
begins_with_equals (b ∷ rest) = b == 61

-- a word is an option, split at its first `=`; where expressions or assignments stand, only by a name of the line and
-- without a second `=`, and where renames stand, only by a name of the line
abbrev pub splits : ArgumentForm → Bool → Text → Bool
splits expression known value = known && not (begins_with_equals value)
splits assignments known value = known && not (begins_with_equals value)
splits renames known value = known
splits _ known value = true

abbrev pub is_option : Line → Text → Text → Bool
is_option l name value = splits l.argument (is_some (form_of l name)) value

abbrev pub plain_item : Line → Text → Item
plain_item l word = if has_name l.bare word then bare word else argument word

abbrev pub item_of : Line → Text → Item
item_of l word = elim (at_first_equals word) [ None ↦ plain_item l word | Some o ↦ if is_option l o.0 o.1 then option o.0 o.1 else plain_item l word ]

-- ---- why a word is refused, by the words of its group before it

abbrev pub refused_if : Bool → WordWhy → Option WordWhy
refused_if refused w = if refused then Some w else None

abbrev pub refusal_of : {A : Type 0} → Result A WordWhy → Option WordWhy
refusal_of (Ok v) = None
refusal_of (Err w) = Some w

abbrev pub expression_fault : Option (ℕ × ExprWhy) → Option WordWhy
expression_fault None = None
expression_fault (Some f) = Some (why.BadExpression f.0 f.1)

-- an empty value, or a list with an empty item
abbrev pub lacks_value : ValueForm → Text → Bool
lacks_value a_list s = has_empty_piece s
lacks_value two_names s = has_empty_piece s
lacks_value _ s = is_empty s

abbrev pub refused_value : Refusals → ℕ → ValueForm → Text → Option WordWhy
refused_value refuses places a_text s = None
refused_value refuses places a_list s = None
refused_value refuses places two_names s = refused_if (not (is_some (pair_of s))) why.BadChoice
refused_value refuses places a_precision s = refused_if (not (is_some (places_of s))) why.BadPrecision
refused_value refuses places a_rule s = refused_if (not (is_some (rule_of s))) why.BadChoice
refused_value refuses places a_format s = refused_if (not (is_some (form_named s))) why.BadChoice
refused_value refuses places a_box s = refusal_of (box_of_text places s)
refused_value refuses places an_expression s = expression_fault (refuses kind.expression s)
refused_value refuses places a_gap s = refused_if (not (is_some (area_units s))) why.BadNumber
refused_value refuses places a_least_area s = refused_if (not (is_some (area_units s))) why.BadNumber
refused_value refuses places one_or_more s = refused_if (not (is_some (count_of 1 s))) why.BadNumber
refused_value refuses places zero_or_more s = refused_if (not (is_some (count_of 0 s))) why.BadNumber
refused_value refuses places calculations s = refusal_of (calculations_of s)

-- a box does not stand beside an argument, and keys do not beside columns to be calculated
abbrev pub is_excluded : ValueForm → Said → Bool
is_excluded a_box before = has_argument before
is_excluded two_names before = has_option before (codes "calc")
is_excluded calculations before = has_option before (codes "keys")
is_excluded _ before = false

abbrev pub refused_option : Refusals → ℕ → Said → Option ValueForm → Text → Text → Option WordWhy
refused_option refuses places before None name value = Some why.UnknownOption
refused_option refuses places before (Some form) name value =
    first_refusal (refused_if (has_option before name) why.OptionTwice)
    (first_refusal (refused_if (lacks_value form value) why.MissingValue)
    (first_refusal (refused_if (is_excluded form before) why.ExtraWord)
    (refused_value refuses places form value)))

abbrev pub is_list : ArgumentForm → Bool
is_list list = true
is_list renames = true
is_list _ = false

-- how many arguments may stand: none, any number of files, or one, which a box replaces
abbrev pub has_room : ArgumentForm → Said → Bool
has_room nothing before = false
has_room files before = true
has_room _ before = not (has_argument before) && not (has_option before (codes "bbox"))

-- the argument reads standard input
abbrev pub reads_standard : ArgumentForm → Text → Bool
reads_standard files s = is_standard s
reads_standard source s = is_standard s
reads_standard _ s = false

abbrev pub refused_text : Refusals → ArgumentForm → Text → Option WordWhy
refused_text refuses files s = refused_if (not (names_file s)) why.UnsupportedFile
refused_text refuses renames s = refusal_of (renames_of s)
refused_text refuses expression s = expression_fault (refuses kind.expression s)
refused_text refuses assignments s = expression_fault (refuses kind.assignments s)
refused_text refuses _ s = None

-- some argument before it in the group reads standard input
abbrev pub is_standard_item : ArgumentForm → Item → Bool
is_standard_item form (argument s) = reads_standard form s
is_standard_item form _ = false

-- `taken` says that some group before this one reads standard input
abbrev pub refused_argument : Refusals → Bool → ArgumentForm → Said → Text → Option WordWhy
refused_argument refuses taken form before s =
    first_refusal (refused_if (is_list form && has_empty_piece s) why.MissingValue)
    (first_refusal (refused_if (not (has_room form before)) why.ExtraWord)
    (first_refusal (refused_if (reads_standard form s && (taken || list_any (is_standard_item form) before)) why.ExtraWord)
    (refused_text refuses form s)))

-- rows ascend or descend
abbrev pub is_opposed : Said → Text → Bool
is_opposed before word =
    if bytes_eq word (codes "ascending") then has_bare before (codes "descending")
    else if bytes_eq word (codes "descending") then has_bare before (codes "ascending")
    else false

abbrev pub refused_bare : Said → Text → Option WordWhy
refused_bare before word = first_refusal (refused_if (has_bare before word) why.OptionTwice) (refused_if (is_opposed before word) why.ExtraWord)

abbrev pub refused_item : Refusals → ℕ → Bool → Line → Said → Item → Option WordWhy
refused_item refuses places taken l before (option name value) = refused_option refuses places before (form_of l name) name value
refused_item refuses places taken l before (bare word) = refused_bare before word
refused_item refuses places taken l before (argument s) = refused_argument refuses taken l.argument before s

-- ---- groups: a word with its number, from 1

abbrev pub Word : Type 0
Word = ℕ × Text

-- what the words of a group say, after others of it, or the first that is refused
abbrev pub says : Refusals → ℕ → Bool → Line → Said → List Word → Reading Said
says refuses places taken l before [] = Ok before
says refuses places taken l before (w ∷ ws) = elim (refused_item refuses places taken l before (item_of l w.1)) [
  | Some reason ↦ Err (w.0, reason)
  | None ↦ says refuses places taken l (before ++ item_of l w.1 ∷ []) ws
]

-- the words up to the first command word, and each command word with the words up to the next
pub record Groups : Type 0 where
  pub first : List Word
  pub commands : List (Word × List Word)

abbrev pub groups_of : List Word → Groups
groups_of [] = record { first = []; commands = [] }
groups_of (w ∷ ws) =
    let rest : Groups = groups_of ws in
    if is_command w.1 then record { first = []; commands = (w, rest.first) ∷ rest.commands } else record { first = w ∷ rest.first; commands = rest.commands }

-- ---- commands

-- the number of the first argument's word
abbrev pub argument_number : Line → List Word → ℕ
argument_number l [] = 0
argument_number l (w ∷ ws) = elim (item_of l w.1) [ argument s ↦ w.0 | option n v ↦ argument_number l ws | bare b ↦ argument_number l ws ]

-- a box, a source file or a layer, by the sources and boxes that stand before it
abbrev pub origin_of : SoFar → Said → Origin
origin_of s said =
    if has_option said (codes "bbox") then origin.Area (length s.boxes)
    else if names_file (argument_text said) then origin.Source (length s.sources + 1)
    else origin.Layer (argument_text said)

abbrev pub is_source : ArgumentForm → Bool
is_source source = true
is_source _ = false

-- the file that a command reads
abbrev pub sources_of : SoFar → Line → Said → List SourceWord
sources_of s l said =
    if is_source l.argument && names_file (argument_text said)
    then record { name = argument_text said; standard = is_standard (argument_text said); owner = owner.Command (length s.commands + 1); string_fields = list_or_empty (value_in said (codes "string-fields")) } ∷ []
    else []

abbrev pub ok_list : {A E : Type 0} → Result A E → List A
ok_list (Ok v) = v ∷ []
ok_list (Err e) = []

abbrev pub boxes_of : ℕ → Said → List Corners
boxes_of places said = elim (value_in said (codes "bbox")) [ None ↦ [] | Some s ↦ ok_list (box_of_text places s) ]

abbrev pub standard_among : List SourceWord → Bool
standard_among sources = list_any (λ (s : SourceWord). s.standard) sources

abbrev pub with_command : ℕ → SoFar → CommandLine → Said → SoFar
with_command places s c said =
    let sources : List SourceWord = s.sources ++ sources_of s c.line said in
    record {
      sources = sources;
      boxes = s.boxes ++ boxes_of places said;
      commands = s.commands ++ record { target = target_of (value_in said (codes "target")); name = value_in said (codes "name"); keep = has_bare said (codes "+"); action = c.asks places (origin_of s said) said } ∷ [];
      reads_standard = standard_among sources;
    }

-- after its words: what is missing, and then a form that an output's name does not tell
abbrev pub finished : ℕ → SoFar → CommandLine → Word → List Word → Said → Reading SoFar
finished places s c w ws said =
    if not (c.has_needed said) then Err (w.0, why.MissingArgument)
    else if bytes_eq c.word (codes "-o") && not (is_some (form_in said)) then Err (argument_number c.line ws, why.UnsupportedFile)
    else Ok (with_command places s c said)

abbrev pub read_line : Refusals → ℕ → SoFar → Word × List Word → Option CommandLine → Reading SoFar
read_line refuses places s g None = Err (g.0.0, why.UnknownCommand)
read_line refuses places s g (Some c) = on_ok (says refuses places s.reads_standard c.line [] g.1) (finished places s c g.0 g.1)

abbrev pub read_command : Refusals → ℕ → SoFar → Word × List Word → Reading SoFar
read_command refuses places s g = if bytes_eq g.0.1 (codes "-i") then Err (g.0.0, why.LaterImport) else read_line refuses places s g (line_of g.0.1)

abbrev pub read_commands : Refusals → ℕ → SoFar → List (Word × List Word) → Reading SoFar
read_commands refuses places s [] = Ok s
read_commands refuses places s (g ∷ gs) = on_ok (read_command refuses places s g) (λ (t : SoFar). read_commands refuses places t gs)

-- ---- the import and the chain

-- without a first `-i`
abbrev pub without_import_word : List Word → List Word
without_import_word [] = []
without_import_word (w ∷ ws) = if bytes_eq w.1 (codes "-i") then ws else w ∷ ws

-- 6 decimal places, where no precision stands
abbrev pub places_in : Said → ℕ
places_in said = unwrap_or (option_and_then places_of (value_in said (codes "precision"))) 6

abbrev pub import_source : Said → Item → List SourceWord
import_source said (argument s) = record { name = s; standard = is_standard s; owner = owner.Import; string_fields = list_or_empty (value_in said (codes "string-fields")) } ∷ []
import_source said _ = []

abbrev pub imported : Said → SoFar
imported said = let sources : List SourceWord = flat_map (import_source said) said in record { sources = sources; boxes = []; commands = []; reads_standard = standard_among sources }

abbrev pub after_import : Refusals → Groups → Said → Reading JobWords
after_import refuses g said =
    if not (has_argument said) then Err (1, why.NoInput)
    else on_ok (read_commands refuses (places_in said) (imported said) g.commands) (λ (s : SoFar). Ok (chain (record { places = places_in said; so_far = s })))

abbrev pub read_groups : Refusals → Groups → Reading JobWords
read_groups refuses g = on_ok (says refuses 6 false import_line [] g.first) (after_import refuses g)

-- ---- synth

abbrev pub read_synth : List Text → Reading JobWords
read_synth (seed ∷ size ∷ []) = elim (number_in 0 4294967295 seed) [
  | None ↦ Err (2, why.BadNumber)
  | Some k ↦ elim (number_in 1 300 size) [ None ↦ Err (3, why.BadNumber) | Some n ↦ Ok (synth k n) ]
]
read_synth (a ∷ b ∷ c ∷ rest) = Err (4, why.ExtraWord)
read_synth _ = Err (1, why.MissingArgument)

-- ---- all words

abbrev pub word_limit : ℕ
word_limit = 1000

abbrev pub read_job : Refusals → List Text → Reading JobWords
read_job refuses [] = read_groups refuses (groups_of [])
read_job refuses (w ∷ ws) = if bytes_eq w (codes "synth") then read_synth ws else read_groups refuses (groups_of (without_import_word (enumerate_from 1 (w ∷ ws))))

-- what words say: a job, or the number of the first refused word, from 1, and why
abbrev pub words_say : Refusals → List Text → Reading JobWords
words_say refuses words = if nat_lt word_limit (length words) then Err (word_limit + 1, why.TooManyWords) else read_job refuses words
