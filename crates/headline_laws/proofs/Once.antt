-- Words name standard input once at most.
use Rattle.std.proofs.Common.{◌≡◌, ℕ, ◌+◌, Bool, true, false, not, ◌&&◌, ◌||◌, cond, List, [], ◌∷◌, ◌++◌, length, codes, nat_lt, Option, Some, None, is_some, Ok, Err, MatchBool, bytes_eq, flat_map, refl, sym, ap, ◌∙◌, subst}
use Rattle.std.specs.List.{enumerate_from, list_any}
use Rattle.std.proofs.lemmas.Bool.{or_parts, or_from}
use Rattle.std.proofs.lemmas.List.{append-nil}
use Rattle.std.proofs.lemmas.List.Folds.{list_any-append}
use Rattle.word_laws.proofs.Tests.{first_is_none, second_is_none, refused_none}
use Rattle.table_terms.specs.Names.{Text}
use Rattle.table_terms.specs.Refusals.{on_ok}
use Rattle.cmd_words.specs.declared.fault.WordWhy.{WordWhy}
use Rattle.cmd_words.specs.declared.fault.WordWhy.TheVariants as why
use Rattle.job_terms.specs.declared.job.Owner.TheVariants as owner
use Rattle.job_terms.specs.declared.job.SourceWord.{SourceWord}
use Rattle.cmd_words.specs.Chains.{SoFar}
use Rattle.cmd_words.specs.Expressions.{Refusals}
use Rattle.cmd_words.specs.Texts.{is_standard, names_file}
use Rattle.cmd_words.specs.Words.{Reading, JobWords, synth, chain}
use Rattle.word_model.specs.CommandTable.{Item, option, bare, argument, Said, ArgumentForm, nothing, files, source, list, expression, assignments, renames, text, Line, CommandLine, value_in, list_or_empty, has_argument, argument_text, form_in, number_in, import_line, line_of}
use Rattle.word_model.specs.Words.{Word, Groups, groups_of, item_of, is_standard_item, reads_standard, has_room, refused_if, refused_text, refused_argument, refused_item, says, is_source, standard_among, with_command, finished, read_line, read_command, read_commands, without_import_word, places_in, import_source, imported, after_import, read_groups, read_synth, read_job, argument_number}
use Rattle.chain_model.specs.Headline as headline
use Rattle.word_laws.proofs.Laws.{standard_of_import}
use Rattle.headline_laws.specs.ToldSources.{HasAtMostOne, IsReadOnce}
use Rattle.headline_laws.specs.Imported.{StandardInputIsReadOnce}

-- ## Lists

none_before : {A : Type 0} (test : A → Bool) (xs : List A) (y : A) → list_any test xs ≡ false → test y ≡ false → list_any test (xs ++ y ∷ []) ≡ false
none_before test xs y none h = list_any-append test xs (y ∷ []) ∙ or_from (list_any test xs) (test y || false) none (or_from (test y) false h refl)

one_more : {A : Type 0} (test : A → Bool) (xs : List A) (y : A) → HasAtMostOne test xs → (list_any test xs ≡ true → test y ≡ false) → HasAtMostOne test (xs ++ y ∷ [])
one_more test [] y h f = go (test y)
  where
    go : (b : Bool) → MatchBool b (false ≡ false) (Unit {0})
    go true = refl
    go false = tt
one_more {A} test (x ∷ xs) y h f = go (test x) refl h (one_more test xs y)
  where
    go : (b : Bool) → test x ≡ b → MatchBool b (list_any test xs ≡ false) (HasAtMostOne test xs) → (HasAtMostOne test xs → (list_any test xs ≡ true → test y ≡ false) → HasAtMostOne test (xs ++ y ∷ [])) → MatchBool b (list_any test (xs ++ y ∷ []) ≡ false) (HasAtMostOne test (xs ++ y ∷ []))
    go true e none later = none_before test xs y none (f (ap (λ (b : Bool). b || list_any test xs) e))
    go false e one later = later one (λ g. f (ap (λ (b : Bool). b || list_any test xs) e ∙ g))

-- ## The words of a group

-- after groups that read standard input, or don't, one item at most reads it
record ReadsOnce (taken : Bool) (form : ArgumentForm) (said : Said) : Type 0 where
  one : HasAtMostOne (is_standard_item form) said
  none : taken ≡ true → list_any (is_standard_item form) said ≡ false

module _ (refuses : Refusals) (places : ℕ) (taken : Bool) (l : Line) where
  -- an argument that is not refused reads it only as the first
  argument_free : (before : Said) (s : Text) → refused_argument refuses taken l.argument before s ≡ None → (reads_standard l.argument s && (taken || list_any (is_standard_item l.argument) before)) ≡ false
  argument_free before s e = refused_none (reads_standard l.argument s && (taken || list_any (is_standard_item l.argument) before)) why.ExtraWord
      (first_is_none (refused_if (reads_standard l.argument s && (taken || list_any (is_standard_item l.argument) before)) why.ExtraWord) (refused_text refuses l.argument s)
      (second_is_none (refused_if (not (has_room l.argument before)) why.ExtraWord) _ (second_is_none _ _ e)))

  item_free : (before : Said) (i : Item) → refused_item refuses places taken l before i ≡ None → (is_standard_item l.argument i && (taken || list_any (is_standard_item l.argument) before)) ≡ false
  item_free before (argument s) e = argument_free before s e
  item_free before (option name value) e = refl
  item_free before (bare word) e = refl

  free_first : (a b c : Bool) → (a && (b || c)) ≡ false → b ≡ true → a ≡ false
  free_first true true c e f = absurd (cc)
  free_first true false c e f = absurd (cc)
  free_first false b c e f = refl

  free_second : (a b c : Bool) → (a && (b || c)) ≡ false → c ≡ true → a ≡ false
  free_second true true c e f = absurd (cc)
  free_second true false c e f = absurd (cc)
  free_second false b c e f = refl

  one_item : (before : Said) (i : Item) → ReadsOnce taken l.argument before → refused_item refuses places taken l before i ≡ None → ReadsOnce taken l.argument (before ++ i ∷ [])
  one_item before i r e =
      let free : (is_standard_item l.argument i && (taken || list_any (is_standard_item l.argument) before)) ≡ false = item_free before i e in
      record {
        one = one_more (is_standard_item l.argument) before i r.one (free_second (is_standard_item l.argument i) taken (list_any (is_standard_item l.argument) before) free);
        none = λ t. none_before (is_standard_item l.argument) before i (r.none t) (free_first (is_standard_item l.argument i) taken (list_any (is_standard_item l.argument) before) free t);
      }

  words_once : (before : Said) (ws : List Word) (said : Said) → ReadsOnce taken l.argument before → says refuses places taken l before ws ≡ Ok said → ReadsOnce taken l.argument said
  words_once before [] said r e = let same : before ≡ said = cc in subst (λ (x : Said). ReadsOnce taken l.argument x) same r
  words_once before (w ∷ ws) said r e = go (refused_item refuses places taken l before (item_of l w.1)) refl e (words_once (before ++ item_of l w.1 ∷ []) ws said)
    where
      go : (o : Option WordWhy) → refused_item refuses places taken l before (item_of l w.1) ≡ o
          → ◌≡◌ {A = Reading Said} (elim o [ Some reason ↦ Err (w.0, reason) | None ↦ says refuses places taken l (before ++ item_of l w.1 ∷ []) ws ]) (Ok said)
          → (ReadsOnce taken l.argument (before ++ item_of l w.1 ∷ []) → says refuses places taken l (before ++ item_of l w.1 ∷ []) ws ≡ Ok said → ReadsOnce taken l.argument said) → ReadsOnce taken l.argument said
      go (Some reason) q f later = absurd (cc)
      go None q f later = later (one_item before (item_of l w.1) r q) f

nothing_read : (taken : Bool) (form : ArgumentForm) → ReadsOnce taken form []
nothing_read taken form = record { one = tt; none = λ t. refl }

-- ## The import

import_once : (all said : Said) → HasAtMostOne (is_standard_item files) said → IsReadOnce (flat_map (import_source all) said)
import_once all [] h = tt
import_once all (option n v ∷ said) h = import_once all said h
import_once all (bare w ∷ said) h = import_once all said h
import_once all (argument s ∷ said) h = go (is_standard s) h (import_once all said)
  where
    go : (b : Bool) → MatchBool b (list_any (is_standard_item files) said ≡ false) (HasAtMostOne (is_standard_item files) said) → (HasAtMostOne (is_standard_item files) said → IsReadOnce (flat_map (import_source all) said)) → MatchBool b (standard_among (flat_map (import_source all) said) ≡ false) (IsReadOnce (flat_map (import_source all) said))
    go true none later = sym (standard_of_import all said) ∙ none
    go false one later = later one

-- ## Commands

-- sources so far, and whether one is standard input
record SoFarOnce (s : SoFar) : Type 0 where
  once : IsReadOnce s.sources
  told : s.reads_standard ≡ standard_among s.sources

text_free : (said : Said) → list_any (is_standard_item source) said ≡ false → is_standard (argument_text said) ≡ false
text_free [] e = refl
text_free (argument s ∷ said) e = (or_parts (is_standard s) (list_any (is_standard_item source) said) e).0
text_free (option n v ∷ said) e = text_free said e
text_free (bare w ∷ said) e = text_free said e

is_source_form : (form : ArgumentForm) → is_source form ≡ true → form ≡ source
is_source_form source e = refl
is_source_form nothing e = absurd (cc)
is_source_form files e = absurd (cc)
is_source_form list e = absurd (cc)
is_source_form expression e = absurd (cc)
is_source_form assignments e = absurd (cc)
is_source_form renames e = absurd (cc)
is_source_form text e = absurd (cc)

module _ (refuses : Refusals) (places : ℕ) where
  command_once : (s : SoFar) (c : CommandLine) (said : Said) → SoFarOnce s → ReadsOnce s.reads_standard c.line.argument said → SoFarOnce (with_command places s c said)
  command_once s c said h r = record { once = go (is_source c.line.argument) refl (names_file (argument_text said)); told = refl }
    where
      made : SourceWord
      made = record { name = argument_text said; standard = is_standard (argument_text said); owner = owner.Command (length s.commands + 1); string_fields = list_or_empty (value_in said (codes "string-fields")) }

      free : c.line.argument ≡ source → standard_among s.sources ≡ true → is_standard (argument_text said) ≡ false
      free e among = text_free said (subst (λ (form : ArgumentForm). list_any (is_standard_item form) said ≡ false) e (r.none (h.told ∙ among)))

      go : (a : Bool) → is_source c.line.argument ≡ a → (b : Bool) → IsReadOnce (s.sources ++ cond (a && b) (made ∷ []) [])
      go true e true = one_more (λ (x : SourceWord). x.standard) s.sources made h.once (free (is_source_form c.line.argument e))
      go true e false = subst IsReadOnce (sym (append-nil s.sources)) h.once
      go false e b = subst IsReadOnce (sym (append-nil s.sources)) h.once

  abbrev Read : Type 0
  Read = Reading SoFar

  -- what an answer has, if it is one
  abbrev IfRead : Read → Type 0
  IfRead (Ok t) = SoFarOnce t
  IfRead (Err e) = Unit {0}

  finished_once : (s : SoFar) (c : CommandLine) (w : Word) (ws : List Word) (said : Said) → SoFarOnce s → ReadsOnce s.reads_standard c.line.argument said → IfRead (finished places s c w ws said)
  finished_once s c w ws said h r = go (not (c.has_needed said)) (bytes_eq c.word (codes "-o") && not (is_some (form_in said)))
    where
      go : (a b : Bool) → IfRead (cond a (Err (w.0, why.MissingArgument)) (cond b (Err (argument_number c.line ws, why.UnsupportedFile)) (Ok (with_command places s c said))))
      go true b = tt
      go false true = tt
      go false false = command_once s c said h r

  line_once : (s : SoFar) (g : Word × List Word) (o : Option CommandLine) → SoFarOnce s → IfRead (read_line refuses places s g o)
  line_once s g None h = tt
  line_once s g (Some c) h = go (says refuses places s.reads_standard c.line [] g.1) refl
    where
      go : (r : Reading Said) → says refuses places s.reads_standard c.line [] g.1 ≡ r → IfRead (on_ok r (finished places s c g.0 g.1))
      go (Err e) f = tt
      go (Ok said) f = finished_once s c g.0 g.1 said h (words_once refuses places s.reads_standard c.line [] g.1 said (nothing_read s.reads_standard c.line.argument) f)

  group_once : (s : SoFar) (g : Word × List Word) → SoFarOnce s → IfRead (read_command refuses places s g)
  group_once s g h = go (bytes_eq g.0.1 (codes "-i"))
    where
      go : (b : Bool) → IfRead (cond b (Err (g.0.0, why.LaterImport)) (read_line refuses places s g (line_of g.0.1)))
      go true = tt
      go false = line_once s g (line_of g.0.1) h

  groups_once : (gs : List (Word × List Word)) (s : SoFar) → SoFarOnce s → IfRead (read_commands refuses places s gs)
  groups_once [] s h = h
  groups_once (g ∷ gs) s h = go (read_command refuses places s g) (group_once s g h) (groups_once gs)
    where
      go : (r : Read) → IfRead r → ((t : SoFar) → SoFarOnce t → IfRead (read_commands refuses places t gs)) → IfRead (on_ok r (λ (t : SoFar). read_commands refuses places t gs))
      go (Err e) i later = tt
      go (Ok t) i later = later t i

-- ## All words

abbrev Once : Reading JobWords → Type 0
Once r = IsReadOnce (headline.sources_of r)

import_read : (refuses : Refusals) (g : Groups) (said : Said) → ReadsOnce false files said → Once (after_import refuses g said)
import_read refuses g said r = go (not (has_argument said))
  where
    begun : SoFarOnce (imported said)
    begun = record { once = import_once said said r.one; told = refl }

    chained : (a : Reading SoFar) → IfRead refuses (places_in said) a → Once (on_ok a (λ (s : SoFar). Ok (chain (record { places = places_in said; so_far = s }))))
    chained (Ok s) h = h.once
    chained (Err e) h = tt

    go : (b : Bool) → Once (cond b (Err (1, why.NoInput)) (on_ok (read_commands refuses (places_in said) (imported said) g.commands) (λ (s : SoFar). Ok (chain (record { places = places_in said; so_far = s })))))
    go true = tt
    go false = chained (read_commands refuses (places_in said) (imported said) g.commands) (groups_once refuses (places_in said) g.commands (imported said) begun)

chain_read : (refuses : Refusals) (g : Groups) → Once (read_groups refuses g)
chain_read refuses g = go (says refuses 6 false import_line [] g.first) refl
  where
    go : (r : Reading Said) → says refuses 6 false import_line [] g.first ≡ r → Once (on_ok r (after_import refuses g))
    go (Err e) f = tt
    go (Ok said) f = import_read refuses g said (words_once refuses 6 false import_line [] g.first said (nothing_read false files) f)

synth_read : (words : List Text) → Once (read_synth words)
synth_read [] = tt
synth_read (a ∷ []) = tt
synth_read (a ∷ b ∷ c ∷ rest) = tt
synth_read (a ∷ b ∷ []) = seed (number_in 0 4294967295 a)
  where
    size : (k : ℕ) (o : Option ℕ) → Once (elim o [ None ↦ Err (3, why.BadNumber) | Some n ↦ Ok (synth k n) ])
    size k None = tt
    size k (Some n) = tt

    seed : (o : Option ℕ) → Once (elim o [ None ↦ Err (2, why.BadNumber) | Some k ↦ elim (number_in 1 300 b) [ None ↦ Err (3, why.BadNumber) | Some n ↦ Ok (synth k n) ] ])
    seed None = tt
    seed (Some k) = size k (number_in 1 300 b)

job_read : (refuses : Refusals) (words : List Text) → Once (read_job refuses words)
job_read refuses [] = chain_read refuses (groups_of [])
job_read refuses (w ∷ ws) = go (bytes_eq w (codes "synth"))
  where
    go : (b : Bool) → Once (cond b (read_synth ws) (read_groups refuses (groups_of (without_import_word (enumerate_from 1 (w ∷ ws))))))
    go true = synth_read ws
    go false = chain_read refuses (groups_of (without_import_word (enumerate_from 1 (w ∷ ws))))

pub read_once : StandardInputIsReadOnce
read_once refuses words = go (nat_lt 1000 (length words))
  where
    go : (b : Bool) → Once (cond b (Err (1001, why.TooManyWords)) (read_job refuses words))
    go true = tt
    go false = job_read refuses words
