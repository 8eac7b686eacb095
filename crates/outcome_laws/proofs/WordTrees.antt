-- Words that are not refused have trees of their expressions: so some job fits them.
use Rattle.std.proofs.Common.{◌≡◌, refl, subst, ℕ, ◌+◌, Bool, true, false, not, List, [], ◌∷◌, ◌++◌, length, Option, Some, None, is_some, unwrap_or, Ok, Err, codes, find, bytes_eq}
use Rattle.std.specs.Prelude.{if◌then◌else◌, ◌&&◌, ◌||◌, nat_lt}
use Rattle.std.specs.List.{enumerate_from, list_any}
use Rattle.std.proofs.lemmas.Slice.Eq.{bytes_eq-Decides}
use Rattle.expr_lang.specs.declared.expr.Expr.{Expr}
use Rattle.table_terms.specs.Names.{Text}
use Rattle.table_terms.specs.Refusals.{first_refusal, on_ok}
use Rattle.cmd_words.specs.ActionWords.{FitEach, FitsAction, FitsCommand, whole, join, spatial_join, filter as filters, each as assigns, sort as sorts, uniq as uniqs}
use Rattle.cmd_words.specs.Chains.{SoFar}
use Rattle.cmd_words.specs.Expressions.{AreRefusals, FitsTest, Refusals}
use Rattle.cmd_words.specs.Expressions as kind
use Rattle.cmd_words.specs.Tells.{FitsJob}
use Rattle.cmd_words.specs.Texts.{has_empty_piece}
use Rattle.cmd_words.specs.Words.{JobWords, Reading, chain, synth}
use Rattle.cmd_words.specs.declared.action_words.ActionWords.TheVariants as words
use Rattle.cmd_words.specs.declared.action_words.CommandWords.{CommandWords}
use Rattle.cmd_words.specs.declared.fault.ExprWhy.{ExprWhy}
use Rattle.cmd_words.specs.declared.fault.WordWhy.{WordWhy}
use Rattle.cmd_words.specs.declared.fault.WordWhy.TheVariants as why
use Rattle.job_terms.specs.declared.job.Action.{Action}
use Rattle.job_terms.specs.declared.job.Command.{Command}
use Rattle.job_terms.specs.declared.job.Job.{Job}
use Rattle.job_terms.specs.declared.job.Job.TheVariants as job
use Rattle.job_terms.specs.declared.job.Origin.{Origin}
use Rattle.word_model.specs.CommandTable.{ArgumentForm, CommandLine, Item, Line, Said, ValueForm, a_box, a_format, a_gap, a_least_area, a_list, a_precision, a_rule, a_text, an_expression, argument, argument_in, argument_text, assignments, bare, calc_spec, calculations, command_lines, expression, files, form_in, form_of, has_argument, has_option, import_line, join_spec, joins, keys_in, line_of, list, nothing, number_in, one_or_more, option, renames, source, text, two_names, value_in, zero_or_more}
use Rattle.word_model.specs.Words.{Groups, Word, after_import, argument_number, expression_fault, finished, groups_of, has_room, imported, is_excluded, is_list, is_standard_item, item_of, lacks_value, places_in, read_command, read_commands, read_groups, read_job, read_line, read_synth, reads_standard, refused_argument, refused_if, refused_item, refused_option, refused_text, refused_value, says, with_command, without_import_word, word_limit, words_say}
use Rattle.outcome_laws.proofs.Every.{Every, every_append}
use Rattle.outcome_laws.proofs.Trees.{assignments_read, expression_read}

-- some job fits words that are not refused
abbrev pub HasJob : Reading JobWords → Type 0
HasJob (Ok w) = (j : Job) × FitsJob w j
HasJob (Err e) = Unit {0}

-- the last of two refusals is none where none comes
last_none : (a b : Option WordWhy) → first_refusal a b ≡ None → b ≡ None
last_none None b e = e
last_none (Some w) b e = absurd (let f : Some w ≡ None = e in cc)

-- ## Items that are not refused

no_fault : (r : Option (ℕ × ExprWhy)) → expression_fault r ≡ None → r ≡ None
no_fault None e = refl
no_fault (Some f) e = absurd (let g : Some (why.BadExpression f.0 f.1) ≡ None = e in cc)

module _ (refuses : Refusals) where
  -- texts of expressions and assignments are not refused
  abbrev ArgumentPasses : ArgumentForm → Text → Type 0
  ArgumentPasses expression s = refuses kind.expression s ≡ None
  ArgumentPasses assignments s = refuses kind.assignments s ≡ None
  ArgumentPasses _ s = Unit {0}

  abbrev ValuePasses : Option ValueForm → Text → Type 0
  ValuePasses (Some an_expression) v = refuses kind.expression v ≡ None
  ValuePasses _ v = Unit {0}

  abbrev Passes : Line → Item → Type 0
  Passes l (option name v) = ValuePasses (form_of l name) v
  Passes l (argument s) = ArgumentPasses l.argument s
  Passes l (bare w) = Unit {0}

  text_passes : (form : ArgumentForm) (s : Text) → refused_text refuses form s ≡ None → ArgumentPasses form s
  text_passes expression s e = no_fault (refuses kind.expression s) e
  text_passes assignments s e = no_fault (refuses kind.assignments s) e
  text_passes nothing s e = tt
  text_passes files s e = tt
  text_passes source s e = tt
  text_passes list s e = tt
  text_passes renames s e = tt
  text_passes text s e = tt

  value_passes : (places : ℕ) (form : ValueForm) (v : Text) → refused_value refuses places form v ≡ None → ValuePasses (Some form) v
  value_passes places an_expression v e = no_fault (refuses kind.expression v) e
  value_passes places a_text v e = tt
  value_passes places a_list v e = tt
  value_passes places two_names v e = tt
  value_passes places a_precision v e = tt
  value_passes places a_rule v e = tt
  value_passes places a_format v e = tt
  value_passes places a_box v e = tt
  value_passes places a_gap v e = tt
  value_passes places a_least_area v e = tt
  value_passes places one_or_more v e = tt
  value_passes places zero_or_more v e = tt
  value_passes places calculations v e = tt

  option_passes : (places : ℕ) (before : Said) (form : Option ValueForm) (name v : Text) → refused_option refuses places before form name v ≡ None → ValuePasses form v
  option_passes places before None name v e = tt
  option_passes places before (Some form) name v e =
      let own : Option WordWhy = refused_value refuses places form v in
      let excluded : Option WordWhy = refused_if (is_excluded form before) why.ExtraWord in
      let missing : Option WordWhy = refused_if (lacks_value form v) why.MissingValue in
      let twice : Option WordWhy = refused_if (has_option before name) why.OptionTwice in
      value_passes places form v (last_none excluded own (last_none missing (first_refusal excluded own) (last_none twice (first_refusal missing (first_refusal excluded own)) e)))

  argument_passes : (taken : Bool) (form : ArgumentForm) (before : Said) (s : Text) → refused_argument refuses taken form before s ≡ None → ArgumentPasses form s
  argument_passes taken form before s e =
      let own : Option WordWhy = refused_text refuses form s in
      let standard : Option WordWhy = refused_if (reads_standard form s && (taken || list_any (is_standard_item form) before)) why.ExtraWord in
      let full : Option WordWhy = refused_if (not (has_room form before)) why.ExtraWord in
      let missing : Option WordWhy = refused_if (is_list form && has_empty_piece s) why.MissingValue in
      text_passes form s (last_none standard own (last_none full (first_refusal standard own) (last_none missing (first_refusal full (first_refusal standard own)) e)))

  item_passes : (places : ℕ) (taken : Bool) (l : Line) (before : Said) (i : Item) → refused_item refuses places taken l before i ≡ None → Passes l i
  item_passes places taken l before (option name v) e = option_passes places before (form_of l name) name v e
  item_passes places taken l before (bare w) e = tt
  item_passes places taken l before (argument s) e = argument_passes taken l.argument before s e

  -- ## Groups

  abbrev AllPass : Line → Reading Said → Type 0
  AllPass l (Ok said) = Every (Passes l) said
  AllPass l (Err e) = Unit {0}

  all_pass : (places : ℕ) (taken : Bool) (l : Line) (before : Said) → Every (Passes l) before → (ws : List Word) → AllPass l (says refuses places taken l before ws)
  all_pass places taken l before h [] = h
  all_pass places taken l before h (w ∷ ws) = go (refused_item refuses places taken l before (item_of l w.1)) refl (λ more. all_pass places taken l (before ++ item_of l w.1 ∷ []) more ws)
    where
      go : (r : Option WordWhy) → refused_item refuses places taken l before (item_of l w.1) ≡ r → (Every (Passes l) (before ++ item_of l w.1 ∷ []) → AllPass l (says refuses places taken l (before ++ item_of l w.1 ∷ []) ws))
          → AllPass l (elim r [ Some reason ↦ Err (w.0, reason) | None ↦ says refuses places taken l (before ++ item_of l w.1 ∷ []) ws ])
      go (Some reason) e later = tt
      go None e later = later (every_append (Passes l) before (item_of l w.1 ∷ []) h (item_passes places taken l before (item_of l w.1) e, tt))

  abbrev OptionIs : (Text → Type 0) → Option Text → Type 0
  OptionIs P None = Unit {0}
  OptionIs P (Some s) = P s

  -- the first argument, and the value of an option, are among the items
  first_passes : (l : Line) (said : Said) → Every (Passes l) said → OptionIs (ArgumentPasses l.argument) (argument_in said)
  first_passes l [] h = tt
  first_passes l (argument s ∷ said) h = h.0
  first_passes l (option n v ∷ said) h = first_passes l said h.1
  first_passes l (bare w ∷ said) h = first_passes l said h.1

  named_passes : (l : Line) (name : Text) (said : Said) → Every (Passes l) said → OptionIs (ValuePasses (form_of l name)) (value_in said name)
  named_passes l name [] h = tt
  named_passes l name (argument s ∷ said) h = named_passes l name said h.1
  named_passes l name (bare w ∷ said) h = named_passes l name said h.1
  named_passes l name (option n v ∷ said) h = go (bytes_eq n name) refl (named_passes l name said h.1)
    where
      go : (b : Bool) → bytes_eq n name ≡ b → OptionIs (ValuePasses (form_of l name)) (value_in said name) → OptionIs (ValuePasses (form_of l name)) (elim (if b then Some v else None) [ Some x ↦ Some x | None ↦ value_in said name ])
      go true e later = subst (λ (m : Text). ValuePasses (form_of l m) v) ((bytes_eq-Decides n name).0 e) h.0
      go false e later = later

module _ (refuses : Refusals) (are : AreRefusals refuses) where
  -- ## Trees of texts that pass

  test_read : (o : Option Text) → OptionIs refuses (λ s. refuses kind.expression s ≡ None) o → (e : Option Expr) × FitsTest o e
  test_read None h = (None, tt)
  test_read (Some s) h = let (e, is) = expression_read refuses are s h in (Some e, is)

  -- an argument that is needed is there
  needed : (P : Text → Type 0) (o : Option Text) → OptionIs refuses P o → is_some o ≡ true → P (unwrap_or o [])
  needed P None h e = absurd (let f : false ≡ true = e in cc)
  needed P (Some s) h e = h

  -- ## Commands of the table

  -- the action of words that pass has its trees
  abbrev HasAction : CommandLine → Type 0
  HasAction c = (places : ℕ) (from : Origin) (said : Said) → OptionIs refuses (ArgumentPasses refuses c.line.argument) (argument_in said) → ((name : Text) → OptionIs refuses (ValuePasses refuses (form_of c.line name)) (value_in said name)) →
      c.has_needed said ≡ true → (a : Action) × FitsAction (c.asks places from said) a

  join_read : (from : Origin) (said : Said) → OptionIs refuses (λ s. refuses kind.expression s ≡ None) (value_in said (codes "where")) → (a : Action) × FitsAction (joins from said) a
  join_read from said h = let (e, fits) = test_read (value_in said (codes "where")) h in go e fits (keys_in said)
    where
      go : (e : Option Expr) → FitsTest (value_in said (codes "where")) e → (k : Option (Text × Text)) →
          (a : Action) × FitsAction (elim k [ Some keys ↦ words.Join from (join_spec keys said) (value_in said (codes "where")) | None ↦ words.SpatialJoin from (calc_spec said) (value_in said (codes "where")) ]) a
      go e fits (Some keys) = (_, join {spec = join_spec keys said} {s = record (join_spec keys said) { test = e }} (refl, fits))
      go e fits None = (_, spatial_join {spec = calc_spec said} {s = record (calc_spec said) { test = e }} (refl, fits))

  filter_read : (said : Said) (invert remove_empty : Bool) → OptionIs refuses (λ s. refuses kind.expression s ≡ None) (argument_in said) → (a : Action) × FitsAction (words.Filter (argument_in said) invert remove_empty) a
  filter_read said invert remove_empty h = let (e, fits) = test_read (argument_in said) h in (_, filters fits)

  each_read : (s : Text) → refuses kind.assignments s ≡ None → (a : Action) × FitsAction (words.Each s) a
  each_read s h = let (set, fits) = assignments_read refuses are s h in (_, assigns fits)

  sort_read : (s : Text) (descending : Bool) → refuses kind.expression s ≡ None → (a : Action) × FitsAction (words.Sort s descending) a
  sort_read s descending h = let (e, fits) = expression_read refuses are s h in (_, sorts fits)

  uniq_read : (s : Text) (most : ℕ) (invert : Bool) → refuses kind.expression s ≡ None → (a : Action) × FitsAction (words.Uniq s most invert) a
  uniq_read s most invert h = let (e, fits) = expression_read refuses are s h in (_, uniqs fits)

  rows_read : Every HasAction command_lines
  rows_read =
      let P : Text → Type 0 = λ s. refuses kind.expression s ≡ None in
      let Q : Text → Type 0 = λ s. refuses kind.assignments s ≡ None in (
        λ places from said first named e. (_, whole),
        (
          λ places from said first named e. (_, whole),
          (
            λ places from said first named e. (_, whole),
            (
              λ places from said first named e. (_, whole),
              (
                λ places from said first named e. (_, whole),
                (
                  λ places from said first named e. (_, whole),
                  (
                    λ places from said first named e. (_, whole),
                    (
                      λ places from said first named e. (_, whole),
                      (
                        λ places from said first named e. join_read from said (named (codes "where")),
                        (
                          λ places from said first named e. filter_read said _ _ first,
                          (
                            λ places from said first named e. (_, whole),
                            (
                              λ places from said first named e. (_, whole),
                              (
                                λ places from said first named e. (_, whole),
                                (
                                  λ places from said first named e. each_read (argument_text said) (needed Q (argument_in said) first e),
                                  (
                                    λ places from said first named e. sort_read (argument_text said) _ (needed P (argument_in said) first e),
                                    (
                                      λ places from said first named e. uniq_read (argument_text said) _ _ (needed P (argument_in said) first e),
                                      (
                                        λ places from said first named e. (_, whole),
                                        (
                                          λ places from said first named e. (_, whole),
                                          (
                                            λ places from said first named e. (_, whole),
                                            (
                                              λ places from said first named e. (_, whole),
                                              tt,
                                            ),
                                          ),
                                        ),
                                      ),
                                    ),
                                  ),
                                ),
                              ),
                            ),
                          ),
                        ),
                      ),
                    ),
                  ),
                ),
              ),
            ),
          ),
        ),
      )

  abbrev RowIs : Option CommandLine → Type 0
  RowIs None = Unit {0}
  RowIs (Some c) = HasAction c

  found_row : (test : CommandLine → Bool) (cs : List CommandLine) → Every HasAction cs → RowIs (find test cs)
  found_row test [] h = tt
  found_row test (c ∷ cs) h = go (test c) (found_row test cs h.1)
    where
      go : (b : Bool) → RowIs (find test cs) → RowIs (if b then Some c else find test cs)
      go true later = h.0
      go false later = later

  row_read : (word : Text) → RowIs (line_of word)
  row_read word = found_row (λ (c : CommandLine). bytes_eq c.word word) command_lines rows_read

  -- ## Commands of a chain

  abbrev HasCommand : CommandWords → Type 0
  HasCommand w = (c : Command) × FitsCommand w c

  abbrev AllRead : Reading SoFar → Type 0
  AllRead (Ok s) = Every HasCommand s.commands
  AllRead (Err e) = Unit {0}

  command_added : (places : ℕ) (s : SoFar) (c : CommandLine) (said : Said) → Every HasCommand s.commands → ((from : Origin) → (a : Action) × FitsAction (c.asks places from said) a) → Every HasCommand (with_command places s c said).commands
  command_added places s c said h acts = every_append HasCommand s.commands _ h (made _ (acts _), tt)
    where
      made : (w : CommandWords) → (a : Action) × FitsAction w.action a → HasCommand w
      made w (a, fits) = (record { target = w.target; name = w.name; keep = w.keep; action = a }, record { target = refl; name = refl; keep = refl; action = fits })

  command_finished : (places : ℕ) (s : SoFar) (c : CommandLine) (w : Word) (ws : List Word) (said : Said) → Every HasCommand s.commands → HasAction c → Every (Passes refuses c.line) said → AllRead (finished places s c w ws said)
  command_finished places s c w ws said h acts passes = go (c.has_needed said) refl (bytes_eq c.word (codes "-o") && not (is_some (form_in said)))
    where
      go : (b : Bool) → c.has_needed said ≡ b → (d : Bool) → AllRead (if not b then Err (w.0, why.MissingArgument) else if d then Err (argument_number c.line ws, why.UnsupportedFile) else Ok (with_command places s c said))
      go false e d = tt
      go true e true = tt
      go true e false = command_added places s c said h (λ from. acts places from said (first_passes refuses c.line said passes) (λ name. named_passes refuses c.line name said passes) e)

  line_read : (places : ℕ) (s : SoFar) (g : Word × List Word) (c : Option CommandLine) → RowIs c → Every HasCommand s.commands → AllRead (read_line refuses places s g c)
  line_read places s g None acts h = tt
  line_read places s g (Some c) acts h = go (says refuses places s.reads_standard c.line [] g.1) (all_pass refuses places s.reads_standard c.line [] tt g.1)
    where
      go : (r : Reading Said) → AllPass refuses c.line r → AllRead (on_ok r (finished places s c g.0 g.1))
      go (Err e) passes = tt
      go (Ok said) passes = command_finished places s c g.0 g.1 said h acts passes

  command_read : (places : ℕ) (s : SoFar) (g : Word × List Word) → Every HasCommand s.commands → AllRead (read_command refuses places s g)
  command_read places s g h = go (bytes_eq g.0.1 (codes "-i"))
    where
      go : (b : Bool) → AllRead (if b then Err (g.0.0, why.LaterImport) else read_line refuses places s g (line_of g.0.1))
      go true = tt
      go false = line_read places s g (line_of g.0.1) (row_read g.0.1) h

  commands_read : (places : ℕ) (s : SoFar) (gs : List (Word × List Word)) → Every HasCommand s.commands → AllRead (read_commands refuses places s gs)
  commands_read places s [] h = h
  commands_read places s (g ∷ gs) h = go (read_command refuses places s g) (command_read places s g h) (λ t k. commands_read places t gs k)
    where
      go : (r : Reading SoFar) → AllRead r → ((t : SoFar) → Every HasCommand t.commands → AllRead (read_commands refuses places t gs)) → AllRead (on_ok r (λ (t : SoFar). read_commands refuses places t gs))
      go (Err e) k later = tt
      go (Ok t) k later = later t k

  -- ## Whole jobs

  fit_each : (ws : List CommandWords) → Every HasCommand ws → (cs : List Command) × FitEach ws cs
  fit_each [] h = ([], tt)
  fit_each (w ∷ ws) h = let (cs, fits) = fit_each ws h.1 in (h.0.0 ∷ cs, (h.0.1, fits))

  chain_read : (places : ℕ) (s : SoFar) → Every HasCommand s.commands → HasJob (Ok (chain (record { places = places; so_far = s })))
  chain_read places s h = let (cs, fits) = fit_each s.commands h in (job.Chain (record { places = places; sources = s.sources; boxes = s.boxes; commands = cs }), record { places = refl; sources = refl; boxes = refl; commands = fits })

  import_read : (g : Groups) (said : Said) → HasJob (after_import refuses g said)
  import_read g said = go (has_argument said) (read_commands refuses (places_in said) (imported said) g.commands) (commands_read (places_in said) (imported said) g.commands tt)
    where
      go : (b : Bool) (r : Reading SoFar) → AllRead r → HasJob (if not b then Err (1, why.NoInput) else on_ok r (λ (s : SoFar). Ok (chain (record { places = places_in said; so_far = s }))))
      go false r h = tt
      go true (Err e) h = tt
      go true (Ok s) h = chain_read (places_in said) s h

  groups_read : (g : Groups) → HasJob (read_groups refuses g)
  groups_read g = go (says refuses 6 false import_line [] g.first)
    where
      go : (r : Reading Said) → HasJob (on_ok r (after_import refuses g))
      go (Err e) = tt
      go (Ok said) = import_read g said

  synth_read : (words : List Text) → HasJob (read_synth words)
  synth_read [] = tt
  synth_read (a ∷ []) = tt
  synth_read (a ∷ b ∷ c ∷ rest) = tt
  synth_read (a ∷ b ∷ []) = go (number_in 0 4294967295 a) (number_in 1 300 b)
    where
      go : (o p : Option ℕ) → HasJob (elim o [ None ↦ Err (2, why.BadNumber) | Some k ↦ elim p [ None ↦ Err (3, why.BadNumber) | Some n ↦ Ok (synth k n) ] ])
      go None p = tt
      go (Some k) None = tt
      go (Some k) (Some n) = (job.Synth k n, (refl, refl))

  job_read : (words : List Text) → HasJob (read_job refuses words)
  job_read [] = groups_read (groups_of [])
  job_read (w ∷ ws) = go (bytes_eq w (codes "synth"))
    where
      go : (b : Bool) → HasJob (if b then read_synth ws else read_groups refuses (groups_of (without_import_word (enumerate_from 1 (w ∷ ws)))))
      go true = synth_read ws
      go false = groups_read (groups_of (without_import_word (enumerate_from 1 (w ∷ ws))))

  pub words_read : (words : List Text) → HasJob (words_say refuses words)
  words_read words = go (nat_lt word_limit (length words))
    where
      go : (b : Bool) → HasJob (if b then Err (word_limit + 1, why.TooManyWords) else read_job refuses words)
      go true = tt
      go false = job_read words
