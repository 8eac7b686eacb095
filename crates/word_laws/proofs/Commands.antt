-- Groups of words and commands: both read the same chain so far, or refuse the same word.
use Rattle.std.proofs.Common.{◌≡◌, ℕ, ◌+◌, Bool, true, false, not, ◌&&◌, ◌||◌, cond, List, [], ◌∷◌, ◌++◌, length, map, codes, Option, Some, None, is_some, Result, Ok, Err, bytes_eq, refl, ap, ap₂, sym, ◌∙◌, subst}
use Rattle.std.specs.Option.{option_to_list}
use Rattle.std.specs.List.{list_any}
use Rattle.std.proofs.lemmas.List.Folds.{list_any-append}
use Rattle.grid_base.specs.Grid.{Corners}
use Rattle.table_terms.specs.Names.{Text}
use Rattle.table_terms.specs.Refusals as table
use Rattle.cmd_words.specs.declared.fault.WordWhy.{WordWhy}
use Rattle.cmd_words.specs.declared.fault.WordWhy.TheVariants as why
use Rattle.cmd_words.specs.declared.action_words.ActionWords.{ActionWords}
use Rattle.cmd_words.specs.declared.action_words.CommandWords.{CommandWords}
use Rattle.job_terms.specs.declared.job.Owner.TheVariants as owner
use Rattle.job_terms.specs.declared.job.SourceWord.{SourceWord}
use Rattle.job_terms.specs.declared.job.Target.{Target}
use Rattle.cmd_words.specs.Boxes.{box_of_text}
use Rattle.cmd_words.specs.Expressions.{Refusals}
use Rattle.cmd_words.specs.Rows.{Row, Form, row_of}
use Rattle.cmd_words.specs.Steps.{on_ok}
use Rattle.cmd_words.specs.Texts.{is_standard, names_file}
use Rattle.cmd_words.specs.Groups.{Group, empty_group, number_of_first}
use Rattle.cmd_words.specs.Groups as groups
use Rattle.cmd_words.specs.Chains.{SoFar, source_of, takes_source}
use Rattle.cmd_words.specs.Chains as chains
use Rattle.cmd_words.specs.Words.{Reading, CommandGroup, take_words}
use Rattle.cmd_words.specs.Words as reader
use Rattle.word_model.specs.CommandTable.{Item, option, bare, argument, Said, ArgumentForm, nothing, files, source, list, expression, assignments, renames, text, Line, CommandLine, value_in, has_bare, argument_text, list_or_empty, target_of, form_in, line_of}
use Rattle.word_model.specs.Words.{Word, item_of, is_standard_item, is_source, says, argument_number, origin_of, sources_of, ok_list, standard_among, with_command, finished, read_line, read_command, read_commands}
use Rattle.word_laws.proofs.Tests.{or_false}
use Rattle.word_laws.proofs.Forms.{form_as}
use Rattle.word_laws.proofs.Values.{ok_option, box_from, WellPlaced}
use Rattle.word_laws.proofs.Groups.{argument_words, group_of}
use Rattle.word_laws.proofs.Readings.{OneSource, Kept, kept_at_start, word_as, args_of, Same, words_taken, joined}
use Rattle.word_laws.proofs.Rows.{takes_files, SameRow, SameFound, same_found, Means, kept_means, text_same, list_same}

-- ## Choices

chosen : {A : Type 0} {a b : Bool} {x x' y y' : A} → a ≡ b → x ≡ x' → y ≡ y' → cond a x y ≡ cond b x' y'
chosen {A} {a} {b} {x} {x'} {y} {y'} e f g = ap (λ (t : Bool). cond t x y) e ∙ ap₂ (λ (p q : A). cond b p q) f g

-- ## The number of the first argument

number_same : (l : Line) (ws : List Word) → argument_number l ws ≡ number_of_first (args_of l ws)
number_same l [] = refl
number_same l (w ∷ ws) = go (item_of l w.1) (number_same l ws)
  where
    go : (i : Item) → argument_number l ws ≡ number_of_first (args_of l ws)
        → elim i [ argument s ↦ w.0 | option n v ↦ argument_number l ws | bare b ↦ argument_number l ws ] ≡ number_of_first (argument_words w.0 i ++ args_of l ws)
    go (argument s) e = refl
    go (option n v) e = e
    go (bare b) e = e

-- ## The sources of a command

-- what a word must be to read standard input is among what it must be to name a file
standard_is_file : (s : Text) → names_file s ≡ false → is_standard s ≡ false
standard_is_file s e = go (is_standard s) refl
  where
    go : (b : Bool) → is_standard s ≡ b → b ≡ false
    go true t =
        let named : names_file s ≡ true = rw t refl in
        absurd (cc)
    go false t = refl

no_standard : (form : ArgumentForm) (said : Said) → takes_files form ≡ false → is_source form ≡ false → list_any (is_standard_item form) said ≡ false
no_standard form [] f s = refl
no_standard form (option n v ∷ said) f s = no_standard form said f s
no_standard form (bare w ∷ said) f s = no_standard form said f s
no_standard files (argument w ∷ said) f s = absurd (cc)
no_standard source (argument w ∷ said) f s = absurd (cc)
no_standard nothing (argument w ∷ said) f s = no_standard nothing said f s
no_standard list (argument w ∷ said) f s = no_standard list said f s
no_standard expression (argument w ∷ said) f s = no_standard expression said f s
no_standard assignments (argument w ∷ said) f s = no_standard assignments said f s
no_standard renames (argument w ∷ said) f s = no_standard renames said f s
no_standard text (argument w ∷ said) f s = no_standard text said f s

module _ (number : ℕ) (fields : List Text) (name : Text) where
  abbrev source_word : SourceWord
  source_word = record { name = name; standard = is_standard name; owner = owner.Command number; string_fields = fields }

  standard_chosen : (b : Bool) → names_file name ≡ b → standard_among (cond b (source_word ∷ []) []) ≡ is_standard name
  standard_chosen true e = or_false (is_standard name)
  standard_chosen false e = sym (standard_is_file name e)

  standard_of_source : (form : ArgumentForm) (said : Said) → name ≡ argument_text said → takes_files form ≡ false → OneSource form said
      → standard_among (cond (is_source form && names_file name) (source_word ∷ []) []) ≡ list_any (is_standard_item form) said
  standard_of_source source said n f one = standard_chosen (names_file name) refl ∙ ap is_standard n ∙ sym one
  standard_of_source files said n f one = absurd (cc)
  standard_of_source nothing said n f one = sym (no_standard nothing said f refl)
  standard_of_source list said n f one = sym (no_standard list said f refl)
  standard_of_source expression said n f one = sym (no_standard expression said f refl)
  standard_of_source assignments said n f one = sym (no_standard assignments said f refl)
  standard_of_source renames said n f one = sym (no_standard renames said f refl)
  standard_of_source text said n f one = sym (no_standard text said f refl)

abbrev pub Standard : SoFar → Type 0
Standard s = s.reads_standard ≡ standard_among s.sources

source_list : (b : Bool) (x : SourceWord) → cond b (x ∷ []) [] ≡ option_to_list (cond b (Some x) None)
source_list true x = refl
source_list false x = refl

boxes_same : (places : ℕ) (o : Option Text) → elim o [ None ↦ [] | Some s ↦ ok_list (box_of_text places s) ] ≡ option_to_list (box_from places o)
boxes_same places None = refl
boxes_same places (Some s) = go (box_of_text places s)
  where
    go : (r : Result Corners WordWhy) → ok_list r ≡ option_to_list (ok_option r)
    go (Ok a) = refl
    go (Err w) = refl

targets_same : (o : Option Text) → chains.target_of o ≡ target_of o
targets_same None = refl
targets_same (Some s) = refl

-- ## A whole command

abbrev made_so_far : List SourceWord → List Corners → List CommandWords → Bool → SoFar
made_so_far a b c d = record { sources = a; boxes = b; commands = c; reads_standard = d }

made_so_far_same : {a a' : List SourceWord} {b b' : List Corners} {c c' : List CommandWords} {d d' : Bool} → a ≡ a' → b ≡ b' → c ≡ c' → d ≡ d' → made_so_far a b c d ≡ made_so_far a' b' c' d'
made_so_far_same {a} {a'} {b} {b'} {c} {c'} {d} {d'} p q u v = ap (λ (k : List SourceWord). made_so_far k b c d) p ∙ ap (λ (k : List Corners). made_so_far a' k c d) q ∙ ap₂ (made_so_far a' b') u v

abbrev made_command : Target → Option Text → Bool → ActionWords → CommandWords
made_command to name keep action = record { target = to; name = name; keep = keep; action = action }

made_command_same : {a a' : Target} {b b' : Option Text} {c c' : Bool} {d d' : ActionWords} → a ≡ a' → b ≡ b' → c ≡ c' → d ≡ d' → made_command a b c d ≡ made_command a' b' c' d'
made_command_same {a} {a'} {b} {b'} {c} {c'} {d} {d'} p q u v =
    ap (λ (k : Target). made_command k b c d) p ∙ ap (λ (k : Option Text). made_command a' k c d) q ∙ ap₂ (λ (k : Bool) (x : ActionWords). made_command a' b' k x) u v

module _ (places : ℕ) (s : SoFar) (standard : Standard s) (c : CommandLine) (r : Row) (same : SameRow c r) (ws : List Word) (said : Said) (kept : Kept places c.line.argument (args_of c.line ws) said) where
  abbrev held : Group
  held = group_of places s.reads_standard c.line.argument (args_of c.line ws) said

  means : Means places c.line.argument said held
  means = kept_means places s.reads_standard c.line.argument (args_of c.line ws) said kept

  command_same : made_command (target_of (value_in said (codes "target"))) (value_in said (codes "name")) (has_bare said (codes "+")) (c.asks places (origin_of s said) said)
      ≡ chains.command_words (length s.sources) (length s.boxes) r.keyword held
  command_same =
      sym (made_command_same (ap chains.target_of (means.value (codes "target")) ∙ targets_same (value_in said (codes "target"))) (means.value (codes "name")) (means.bare (codes "+")) (same.action places s said held means))

  sources_same : sources_of s c.line said ≡ option_to_list (source_of (length s.commands + 1) r.keyword held)
  sources_same =
      ap₂ (λ (t : Text) (ks : List Text). cond (is_source c.line.argument && names_file t) (source_word (length s.commands + 1) ks t ∷ []) []) (sym (text_same places c.line.argument said held means)) (sym (list_same places c.line.argument said held means (codes "string-fields")))
      ∙ ap (λ (b : Bool). cond (b && names_file (chains.argument_text held)) (source_word (length s.commands + 1) (chains.list_or_empty (groups.value_in held (codes "string-fields"))) (chains.argument_text held) ∷ []) []) (sym same.source)
      ∙ source_list (takes_source r.keyword && names_file (chains.argument_text held)) (source_word (length s.commands + 1) (chains.list_or_empty (groups.value_in held (codes "string-fields"))) (chains.argument_text held))

  standard_same : standard_among (s.sources ++ sources_of s c.line said) ≡ (s.reads_standard || list_any (is_standard_item c.line.argument) said)
  standard_same =
      list_any-append (λ (w : SourceWord). w.standard) s.sources (sources_of s c.line said)
      ∙ ap₂ ◌||◌ (sym standard) (standard_of_source (length s.commands + 1) (list_or_empty (value_in said (codes "string-fields"))) (argument_text said) c.line.argument said refl same.no_files kept.one)

  added_same : with_command places s c said ≡ chains.with_command s r.keyword held
  added_same =
      made_so_far_same (ap (λ (xs : List SourceWord). s.sources ++ xs) sources_same) (ap (λ (xs : List Corners). s.boxes ++ xs) (boxes_same places (value_in said (codes "bbox"))))
      (ap (λ (x : CommandWords). s.commands ++ x ∷ []) command_same) standard_same

  pub finished_same : (w : Word) → finished places s c w ws said ≡ reader.finished s r.keyword w.0 held
  finished_same w =
      chosen (sym (same.needed places said held means)) refl
      (chosen (sym (same.known places said held means)) (ap (λ (n : ℕ). Err (n, why.UnsupportedFile)) (number_same c.line ws)) (ap (λ (x : SoFar). Ok x) added_same))

-- ## Commands, one after the other

abbrev pub command_as : Word × List Word → CommandGroup
command_as g = record { word = word_as g.0; rest = map word_as g.1 }

started : (places : ℕ) (taken : Bool) (form : ArgumentForm) → empty_group taken ≡ group_of places taken form [] []
started places taken form = ap (λ (b : Bool). record (empty_group taken) { reads_standard = b }) (sym (or_false taken)) ∙ go form
  where
    go : (f : ArgumentForm) → record (empty_group taken) { reads_standard = taken || false } ≡ group_of places taken f [] []
    go nothing = refl
    go files = refl
    go source = refl
    go list = refl
    go expression = refl
    go assignments = refl
    go renames = refl
    go text = refl

-- the words of a group from its first on
pub words_same : (refuses : Refusals) (places : ℕ) (taken : Bool) (l : Line) (form : Form) (placed : WellPlaced l) → form ≡ form_as l → (ws : List Word)
    → Same places taken l.argument (args_of l ws) (says refuses places taken l [] ws) (take_words refuses places form (empty_group taken) (map word_as ws))
words_same refuses places taken l form placed e ws =
    subst (λ (f : Form). Same places taken l.argument (args_of l ws) (says refuses places taken l [] ws) (take_words refuses places f (empty_group taken) (map word_as ws))) (sym e)
    (subst (λ (g : Group). Same places taken l.argument (args_of l ws) (says refuses places taken l [] ws) (take_words refuses places (form_as l) g (map word_as ws))) (sym (started places taken l.argument))
    (words_taken refuses places taken l placed ws [] [] (kept_at_start places l.argument)))

module _ (refuses : Refusals) (places : ℕ) where
  line_same : (s : SoFar) → Standard s → (g : Word × List Word) (c : Option CommandLine) (r : Option Row) → SameFound c r → read_line refuses places s g c ≡ reader.take_row refuses places s g.0.0 (map word_as g.1) r
  line_same s standard g None None f = refl
  line_same s standard g None (Some r) f = absurd f
  line_same s standard g (Some c) None f = absurd f
  line_same s standard g (Some c) (Some r) same =
      joined places s.reads_standard c.line.argument (args_of c.line g.1) _ _ (finished places s c g.0 g.1) (reader.finished s r.keyword g.0.0)
      (words_same refuses places s.reads_standard c.line r.form same.fits same.form g.1) (λ said kept. finished_same places s standard c r same g.1 said kept g.0)

  command_read : (s : SoFar) → Standard s → (g : Word × List Word) → read_command refuses places s g ≡ reader.take_command refuses places s (command_as g)
  command_read s standard g = ap (λ (r : Reading SoFar). cond (bytes_eq g.0.1 (codes "-i")) (Err (g.0.0, why.LaterImport)) r) (line_same s standard g (line_of g.0.1) (row_of g.0.1) (same_found g.0.1))

  -- a chain so far tells whether it reads standard input
  abbrev Told : Reading SoFar → Type 0
  Told (Ok s) = Standard s
  Told (Err e) = Unit {0}

  told_on : (a : Reading Said) (f : Said → Reading SoFar) → ((said : Said) → Told (f said)) → Told (table.on_ok a f)
  told_on (Ok said) f t = t said
  told_on (Err e) f t = tt

  finished_told : (s : SoFar) (c : CommandLine) (w : Word) (ws : List Word) (said : Said) → Told (finished places s c w ws said)
  finished_told s c w ws said = go (not (c.has_needed said)) (bytes_eq c.word (codes "-o") && not (is_some (form_in said)))
    where
      go : (a b : Bool) → Told (cond a (Err (w.0, why.MissingArgument)) (cond b (Err (argument_number c.line ws, why.UnsupportedFile)) (Ok (with_command places s c said))))
      go true b = tt
      go false true = tt
      go false false = refl

  line_told : (s : SoFar) (g : Word × List Word) (c : Option CommandLine) → Told (read_line refuses places s g c)
  line_told s g None = tt
  line_told s g (Some c) = told_on (says refuses places s.reads_standard c.line [] g.1) (finished places s c g.0 g.1) (finished_told s c g.0 g.1)

  command_told : (s : SoFar) (g : Word × List Word) → Told (read_command refuses places s g)
  command_told s g = go (bytes_eq g.0.1 (codes "-i"))
    where
      go : (b : Bool) → Told (cond b (Err (g.0.0, why.LaterImport)) (read_line refuses places s g (line_of g.0.1)))
      go true = tt
      go false = line_told s g (line_of g.0.1)

  then_same : (a b : Reading SoFar) (f h : SoFar → Reading SoFar) → a ≡ b → Told a → ((t : SoFar) → Standard t → f t ≡ h t) → table.on_ok a f ≡ on_ok b h
  then_same (Ok t) b f h e told k = k t told ∙ ap (λ (z : Reading SoFar). on_ok z h) e
  then_same (Err x) b f h e told k = ap (λ (z : Reading SoFar). on_ok z h) e

  pub commands_read : (gs : List (Word × List Word)) (s : SoFar) → Standard s → read_commands refuses places s gs ≡ reader.take_commands refuses places s (map command_as gs)
  commands_read [] s standard = refl
  commands_read (g ∷ gs) s standard =
      then_same (read_command refuses places s g) (reader.take_command refuses places s (command_as g)) (λ (t : SoFar). read_commands refuses places t gs) (λ (t : SoFar). reader.take_commands refuses places t (map command_as gs))
      (command_read s standard g) (command_told s g) (commands_read gs)
