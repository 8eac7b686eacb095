-- All words: the groups that they are, the import, and a made-up mosaic.
use Rattle.std.proofs.Common.{◌≡◌, ℕ, ◌+◌, Bool, true, false, not, ◌||◌, cond, List, [], ◌∷◌, length, map, codes, nat_lt, Option, Some, None, is_some, Result, Ok, Err, bytes_eq, flat_map, refl, ap, ap₂, sym, ◌∙◌, subst}
use Rattle.std.specs.List.{enumerate_from, list_any}
use Rattle.table_terms.specs.Names.{Text}
use Rattle.table_terms.specs.Refusals as table
use Rattle.cmd_words.specs.declared.fault.WordFault.{WordFault}
use Rattle.cmd_words.specs.declared.fault.WordWhy.TheVariants as why
use Rattle.job_terms.specs.declared.job.Job.{Job}
use Rattle.job_terms.specs.declared.job.Owner.TheVariants as owner
use Rattle.job_terms.specs.declared.job.SourceWord.{SourceWord}
use Rattle.cmd_words.specs.Quantities.{number_in}
use Rattle.cmd_words.specs.Expressions.{Refusals}
use Rattle.cmd_words.specs.Rows.{import_form}
use Rattle.cmd_words.specs.Steps.{on_ok}
use Rattle.cmd_words.specs.Texts.{is_command, is_standard}
use Rattle.cmd_words.specs.Groups.{Group, empty_group}
use Rattle.cmd_words.specs.Groups as groups
use Rattle.cmd_words.specs.Chains.{SoFar}
use Rattle.cmd_words.specs.Words.{Reading, Grouped, ChainWords, JobWords, synth, chain, words_from, grouped, read_words, take_words}
use Rattle.cmd_words.specs.Words as reader
use Rattle.cmd_words.specs.Tells.{Tells, FitsJob}
use Rattle.word_model.specs.CommandTable.{option, bare, argument, Said, files, value_in, has_argument, list_or_empty, import_line}
use Rattle.word_model.specs.Words.{Word, Groups, groups_of, is_standard_item, standard_among, says, without_import_word, places_in, import_source, imported, after_import, read_commands, read_groups, read_synth, read_job, words_say}
use Rattle.word_laws.proofs.Shown as shown
use Rattle.word_laws.proofs.Forms.{import_as}
use Rattle.word_laws.proofs.Groups.{text_of, group_of}
use Rattle.word_laws.proofs.Values.{WellPlaced}
use Rattle.word_laws.proofs.Readings.{Kept, word_as, args_of, joined}
use Rattle.word_laws.proofs.Rows.{Means, kept_means, list_same}
use Rattle.word_laws.proofs.Commands.{command_as, words_same, commands_read}

-- ## Words by their numbers, and in groups

numbered_same : (n : ℕ) (words : List Text) → map word_as (enumerate_from n words) ≡ words_from n words
numbered_same n [] = refl
numbered_same n (w ∷ ws) = ap (λ xs. word_as (n, w) ∷ xs) (numbered_same (n + 1) ws)

abbrev groups_as : Groups → Grouped
groups_as g = record { first = map word_as g.first; commands = map command_as g.commands }

groups_same : (ws : List Word) → grouped (map word_as ws) ≡ groups_as (groups_of ws)
groups_same [] = refl
groups_same (w ∷ ws) = ap (reader.put_word (word_as w)) (groups_same ws) ∙ choose (is_command w.1)
  where
    choose : (b : Bool) → cond b (record { first = []; commands = record { word = word_as w; rest = map word_as (groups_of ws).first } ∷ map command_as (groups_of ws).commands }) (record { first = word_as w ∷ map word_as (groups_of ws).first; commands = map command_as (groups_of ws).commands })
        ≡ groups_as (cond b (record { first = []; commands = (w, (groups_of ws).first) ∷ (groups_of ws).commands }) (record { first = w ∷ (groups_of ws).first; commands = (groups_of ws).commands }))
    choose true = refl
    choose false = refl

without_same : (ws : List Word) → reader.without_import_word (map word_as ws) ≡ map word_as (without_import_word ws)
without_same [] = refl
without_same (w ∷ ws) = choose (bytes_eq w.1 (codes "-i"))
  where
    choose : (b : Bool) → cond b (map word_as ws) (word_as w ∷ map word_as ws) ≡ map word_as (cond b ws (w ∷ ws))
    choose true = refl
    choose false = refl

-- ## The import

abbrev source_from : List Text → Text → SourceWord
source_from fields s = record { name = s; standard = is_standard s; owner = owner.Import; string_fields = fields }

sources_of_texts : (all said : Said) → map (source_from (list_or_empty (value_in all (codes "string-fields")))) (flat_map text_of said) ≡ flat_map (import_source all) said
sources_of_texts all [] = refl
sources_of_texts all (argument s ∷ said) = ap (λ (xs : List SourceWord). source_from (list_or_empty (value_in all (codes "string-fields"))) s ∷ xs) (sources_of_texts all said)
sources_of_texts all (option n v ∷ said) = sources_of_texts all said
sources_of_texts all (bare w ∷ said) = sources_of_texts all said

sources_of_words : (fields : List Text) (args : List shown.Word) → map (λ (w : shown.Word). source_from fields w.text) args ≡ map (source_from fields) (map (λ (w : shown.Word). w.text) args)
sources_of_words fields [] = refl
sources_of_words fields (w ∷ ws) = ap (λ (xs : List SourceWord). source_from fields w.text ∷ xs) (sources_of_words fields ws)

pub standard_of_import : (all said : Said) → list_any (is_standard_item files) said ≡ standard_among (flat_map (import_source all) said)
standard_of_import all [] = refl
standard_of_import all (argument s ∷ said) = ap (λ (b : Bool). is_standard s || b) (standard_of_import all said)
standard_of_import all (option n v ∷ said) = standard_of_import all said
standard_of_import all (bare w ∷ said) = standard_of_import all said

module _ (args : List shown.Word) (said : Said) (kept : Kept 6 files args said) where
  abbrev held : Group
  held = group_of 6 false files args said

  means : Means 6 files said held
  means = kept_means 6 false files args said kept

  import_sources : flat_map (import_source said) said ≡ reader.import_sources held
  import_sources =
      sym (sources_of_texts said said) ∙ ap (map (source_from (list_or_empty (value_in said (codes "string-fields"))))) (sym kept.texts)
      ∙ sym (sources_of_words (list_or_empty (value_in said (codes "string-fields"))) args)
      ∙ ap (λ (ks : List Text). map (λ (w : shown.Word). source_from ks w.text) args) (sym (list_same 6 files said held means (codes "string-fields")))

  import_same : imported said ≡ reader.imported held
  import_same =
      ap₂ (λ (xs : List SourceWord) (b : Bool). record { sources = xs; boxes = []; commands = []; reads_standard = b }) import_sources (sym (standard_of_import said said))

  abbrev as_job : ChainWords → Reading JobWords
  as_job c = Ok (chain c)

  ended : (places : ℕ) (a b : Reading SoFar) → a ≡ b
      → table.on_ok a (λ (s : SoFar). Ok (chain (record { places = places; so_far = s }))) ≡ on_ok (on_ok b (λ (s : SoFar). Ok (record { places = places; so_far = s }))) as_job
  ended places (Ok s) b e = ap (λ (z : Reading SoFar). on_ok (on_ok z (λ (t : SoFar). Ok (record { places = places; so_far = t }))) as_job) e
  ended places (Err x) b e = ap (λ (z : Reading SoFar). on_ok (on_ok z (λ (t : SoFar). Ok (record { places = places; so_far = t }))) as_job) e

  pub past_import : (refuses : Refusals) (g : Groups) → after_import refuses g said ≡ on_ok (reader.after_import refuses (map command_as g.commands) held) as_job
  past_import refuses g = choose (has_argument said) (is_some (groups.argument_in held)) (ap is_some (sym means.argument))
    where
      commands : read_commands refuses (places_in said) (imported said) g.commands ≡ reader.take_commands refuses (reader.places_in held) (reader.imported held) (map command_as g.commands)
      commands =
          commands_read refuses (places_in said) g.commands (imported said) refl
          ∙ ap (λ (s : SoFar). reader.take_commands refuses (places_in said) s (map command_as g.commands)) import_same

      whole : table.on_ok (read_commands refuses (places_in said) (imported said) g.commands) (λ (s : SoFar). Ok (chain (record { places = places_in said; so_far = s })))
          ≡ on_ok (on_ok (reader.take_commands refuses (reader.places_in held) (reader.imported held) (map command_as g.commands)) (λ (s : SoFar). Ok (record { places = reader.places_in held; so_far = s }))) as_job
      whole = ended (places_in said) _ _ commands

      choose : (a b : Bool) → a ≡ b
          → cond (not a) (Err (1, why.NoInput)) (table.on_ok (read_commands refuses (places_in said) (imported said) g.commands) (λ (s : SoFar). Ok (chain (record { places = places_in said; so_far = s }))))
          ≡ on_ok (cond (not b) (Err (1, why.NoInput)) (on_ok (reader.take_commands refuses (reader.places_in held) (reader.imported held) (map command_as g.commands)) (λ (s : SoFar). Ok (record { places = reader.places_in held; so_far = s })))) as_job
      choose true true e = whole
      choose false false e = refl
      choose true false e = absurd (cc)
      choose false true e = absurd (cc)

-- ## A chain

import_placed : WellPlaced import_line
import_placed = refl

twice : {A : Type 0} (a : Reading A) (f : A → Reading ChainWords) → on_ok a (λ (x : A). on_ok (f x) (λ (c : ChainWords). Ok (chain c))) ≡ on_ok (on_ok a f) (λ (c : ChainWords). Ok (chain c))
twice (Ok x) f = refl
twice (Err e) f = refl

groups_read : (refuses : Refusals) (g : Groups) → read_groups refuses g ≡ on_ok (reader.read_groups refuses (groups_as g)) (λ (c : ChainWords). Ok (chain c))
groups_read refuses g =
    joined 6 false files (args_of import_line g.first) (says refuses 6 false import_line [] g.first) (take_words refuses 6 import_form (empty_group false) (map word_as g.first)) (after_import refuses g)
    (λ (h : Group). on_ok (reader.after_import refuses (map command_as g.commands) h) (λ (c : ChainWords). Ok (chain c)))
    (words_same refuses 6 false import_line import_form import_placed (sym import_as) g.first) (λ said kept. past_import (args_of import_line g.first) said kept refuses g)
    ∙ twice (take_words refuses 6 import_form (empty_group false) (map word_as g.first)) (reader.after_import refuses (map command_as g.commands))

chain_read : (refuses : Refusals) (words : List Text) → read_groups refuses (groups_of (without_import_word (enumerate_from 1 words))) ≡ reader.read_chain_words refuses words
chain_read refuses words =
    groups_read refuses (groups_of (without_import_word (enumerate_from 1 words)))
    ∙ ap (λ (g : Grouped). on_ok (reader.read_groups refuses g) (λ (c : ChainWords). Ok (chain c)))
    (sym (groups_same (without_import_word (enumerate_from 1 words))) ∙ ap grouped (sym (without_same (enumerate_from 1 words)) ∙ ap reader.without_import_word (numbered_same 1 words)))

-- ## A made-up mosaic

synth_read : (words : List Text) → read_synth words ≡ reader.read_synth words
synth_read [] = refl
synth_read (a ∷ []) = refl
synth_read (a ∷ b ∷ c ∷ rest) = refl
synth_read (a ∷ b ∷ []) = seed (number_in 0 4294967295 a)
  where
    size : (k : ℕ) (o : Option ℕ) → elim o [ None ↦ Err (3, why.BadNumber) | Some n ↦ Ok (synth k n) ] ≡ reader.read_size k o
    size k None = refl
    size k (Some n) = refl

    seed : (o : Option ℕ) → elim o [ None ↦ Err (2, why.BadNumber) | Some k ↦ elim (number_in 1 300 b) [ None ↦ Err (3, why.BadNumber) | Some n ↦ Ok (synth k n) ] ] ≡ reader.read_seed o b
    seed None = refl
    seed (Some k) = size k (number_in 1 300 b)

-- ## All words

job_read : (refuses : Refusals) (words : List Text) → read_job refuses words ≡ reader.read_job refuses words
job_read refuses [] = chain_read refuses []
job_read refuses (w ∷ ws) = choose (bytes_eq w (codes "synth"))
  where
    choose : (b : Bool) → cond b (read_synth ws) (read_groups refuses (groups_of (without_import_word (enumerate_from 1 (w ∷ ws))))) ≡ cond b (reader.read_synth ws) (reader.read_chain_words refuses (w ∷ ws))
    choose true = synth_read ws
    choose false = chain_read refuses (w ∷ ws)

pub table_says : (refuses : Refusals) (words : List Text) → words_say refuses words ≡ read_words refuses words
table_says refuses words = ap (λ (r : Reading JobWords). cond (nat_lt 1000 (length words)) (Err (1001, why.TooManyWords)) r) (job_read refuses words)

pub read_fits : (refuses : Refusals) (words : List Text) (answer : Result Job WordFault) → Tells FitsJob (read_words refuses words) answer → Tells FitsJob (words_say refuses words) answer
read_fits refuses words answer t = subst (λ (r : Reading JobWords). Tells FitsJob r answer) (sym (table_says refuses words)) t
