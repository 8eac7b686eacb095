-- One word: the reader takes it, or refuses it for the same reason.
use Rattle.std.proofs.Common.{◌≡◌, ℕ, Bool, true, false, not, ◌&&◌, ◌||◌, cond, List, [], ◌∷◌, ◌++◌, codes, Option, Some, None, is_some, option_map, Result, Ok, Err, bytes_eq, flat_map, refl, ap, ap₂, sym, ◌∙◌, subst}
use Rattle.std.specs.List.{list_any}
use Rattle.std.proofs.lemmas.List.{append-nil}
use Rattle.table_terms.specs.Names.{Text}
use Rattle.table_terms.specs.Names as names
use Rattle.table_terms.specs.Refusals.{unless}
use Rattle.table_terms.specs.declared.renames.Rename.{Rename}
use Rattle.cmd_words.specs.declared.fault.ExprWhy.{ExprWhy}
use Rattle.cmd_words.specs.declared.fault.WordWhy.{WordWhy}
use Rattle.cmd_words.specs.declared.fault.WordWhy.TheVariants as why
use Rattle.cmd_words.specs.Expressions as kind
use Rattle.cmd_words.specs.Expressions.{Refusals, text_or_fault}
use Rattle.cmd_words.specs.Rows as reader_rows
use Rattle.cmd_words.specs.Rows.{rows}
use Rattle.cmd_words.specs.Steps.{on_ok}
use Rattle.cmd_words.specs.Texts.{at_first_equals, has_empty_piece, is_standard, names_file, option_in, is_option, where_true}
use Rattle.cmd_words.specs.Values.{renames_of}
use Rattle.cmd_words.specs.Groups.{Group, first_text}
use Rattle.cmd_words.specs.Options as reader
use Rattle.word_model.specs.CommandTable.{Item, option, bare, argument, Said, ValueForm, a_text, a_list, two_names, a_precision, a_rule, a_format, a_box, an_expression, a_gap, a_least_area, one_or_more, zero_or_more, calculations, ArgumentForm, nothing, files, source, list, expression, assignments, renames, text, Line, value_in, has_option, has_bare, has_argument, argument_in, form_of}
use Rattle.word_model.specs.Words as said_words
use Rattle.word_model.specs.Words.{plain_item, item_of, refusal_of, expression_fault, lacks_value, refused_value, is_excluded, refused_option, is_list, has_room, reads_standard, refused_text, is_standard_item, refused_argument, is_opposed, refused_bare, refused_item}
use Rattle.word_laws.proofs.Tests.{has_name_same, or_assoc, not_or, first_is_false, none_of, guard, guard_last, accepts}
use Rattle.word_laws.proofs.Forms.{form_as, form_of_as, is_option_same, lacks_same, list_same, standard_same}
use Rattle.word_laws.proofs.Shown.{Word, Value, Values, argument_as, value_as}
use Rattle.word_laws.proofs.Values.{own, value_taken, Placing, WellPlaced, Placed, placed_by}
use Rattle.word_laws.proofs.Groups.{argument_words, setting_of, bare_of, values_in, renames_seen, expression_of, assigns_of, made, made_same, group_of, value_same, bare_same, flat_map_last, flat_map_kept, any_last, any_kept, values_kept, values_more, renames_kept, expression_kept, assigns_kept, argument_first, renames_first}

-- ## One word

module _ (refuses : Refusals) (places : ℕ) (taken : Bool) (args : List Word) (said : Said) where
  abbrev after_option : ArgumentForm → Text → Text → Group
  after_option form name value = group_of places taken form (args ++ []) (said ++ option name value ∷ [])

  abbrev after_argument : ArgumentForm → ℕ → Text → Group
  after_argument form n s = group_of places taken form (args ++ record { number = n; text = s } ∷ []) (said ++ argument s ∷ [])

  -- ## Options

  module _ (form : ArgumentForm) (name value : Text) where
    abbrev with_option : Values → Group
    with_option x = made args (flat_map setting_of said ++ record { name = name; value = value } ∷ []) (flat_map bare_of said) (taken || list_any (is_standard_item form) said) x (renames_seen form said) (expression_of form said) (assigns_of form said)

    option_said : (x : Values) → x ≡ values_in places (said ++ option name value ∷ []) → with_option x ≡ after_option form name value
    option_said x e =
        made_same (sym (append-nil args)) (sym (flat_map_last setting_of said (option name value))) (flat_map_kept bare_of said (option name value) refl)
        (ap (λ (b : Bool). taken || b) (any_kept (is_standard_item form) said (option name value) refl)) e (renames_kept form said (option name value) refl) (expression_kept form said (option name value) refl) (assigns_kept form said (option name value) refl)

    passed_on : (r : Option WordWhy) (x : Values) → on_ok (unless r (Ok x)) (λ (v : Values). Ok (with_option v)) ≡ unless r (Ok (with_option x))
    passed_on None x = refl
    passed_on (Some w) x = refl

    value_step : (f : ValueForm) → Placed f name → has_option said name ≡ false
        → reader.with_value refuses places (value_as f) value (with_option (values_in places said)) ≡ unless (refused_value refuses places f value) (Ok (after_option form name value))
    value_step f p fresh =
        let kept : Values = own places f value (values_in places said) in
        let by_name : kept ≡ values_in places (said ++ option name value ∷ []) = ap (λ (k : Placing). k.0 places (value_in said) value) (sym p) ∙ values_more places said name value (none_of (value_in said name) fresh) in
        ap (λ (k : Result Values WordWhy). on_ok k (λ (v : Values). Ok (with_option v))) (value_taken refuses places value (values_in places said) f) ∙ passed_on (refused_value refuses places f value) kept
        ∙ ap (λ (g : Group). unless (refused_value refuses places f value) (Ok g)) (option_said kept by_name)

    excluded_same : first_text args ≡ argument_in said → (f : ValueForm) → reader.is_excluded (value_as f) (group_of places taken form args said) ≡ is_excluded f said
    unfolding rows value_as
    excluded_same first a_box = ap is_some first
    excluded_same first two_names = ap is_some (value_same said (codes "calc"))
    excluded_same first calculations = ap is_some (value_same said (codes "keys"))
    excluded_same first a_text = refl
    excluded_same first a_list = refl
    excluded_same first a_precision = refl
    excluded_same first a_rule = refl
    excluded_same first a_format = refl
    excluded_same first an_expression = refl
    excluded_same first a_gap = refl
    excluded_same first a_least_area = refl
    excluded_same first one_or_more = refl
    excluded_same first zero_or_more = refl

    known_step : first_text args ≡ argument_in said → (f : Option ValueForm) → ((v : ValueForm) → f ≡ Some v → Placed v name)
        → reader.take_known refuses places (option_map value_as f) (name, value) (group_of places taken form args said) ≡ unless (refused_option refuses places said f name value) (Ok (after_option form name value))
    known_step first None p = refl
    known_step first (Some v) p =
        guard _ (has_option said name) why.OptionTwice _ _ _ (ap is_some (value_same said name)) (λ fresh.
        guard _ (lacks_value v value) why.MissingValue _ _ _ (lacks_same v value) (λ some.
        guard _ (is_excluded v said) why.ExtraWord _ _ _ (excluded_same first v) (λ alone.
        value_step v (p v refl) fresh)))

  -- ## Bare words

  opposed_same : (form : ArgumentForm) (word : Text) → reader.is_opposed (group_of places taken form args said) word ≡ is_opposed said word
  opposed_same form word = ap₂ (λ (a b : Bool). cond (bytes_eq word (codes "ascending")) a (cond (bytes_eq word (codes "descending")) b false)) (bare_same said (codes "descending")) (bare_same said (codes "ascending"))

  bare_step : (form : ArgumentForm) (word : Text)
      → reader.take_bare word (group_of places taken form args said) ≡ unless (refused_bare said word) (Ok (group_of places taken form (args ++ []) (said ++ bare word ∷ [])))
  bare_step form word =
      guard _ (has_bare said word) why.OptionTwice _ _ _ (bare_same said word) (λ fresh.
      guard_last _ (is_opposed said word) why.ExtraWord _ _ (opposed_same form word) (λ alone. ap (λ (g : Group). Ok g) grown))
    where
      grown : made args (flat_map setting_of said) (flat_map bare_of said ++ word ∷ []) (taken || list_any (is_standard_item form) said) (values_in places said) (renames_seen form said) (expression_of form said) (assigns_of form said) ≡ group_of places taken form (args ++ []) (said ++ bare word ∷ [])
      grown =
          made_same (sym (append-nil args)) (flat_map_kept setting_of said (bare word) refl) (sym (flat_map_last bare_of said (bare word)))
          (ap (λ (b : Bool). taken || b) (any_kept (is_standard_item form) said (bare word) refl)) (values_kept places said (bare word) (λ other. refl)) (renames_kept form said (bare word) refl) (expression_kept form said (bare word) refl)
          (assigns_kept form said (bare word) refl)

  -- ## Arguments

  module _ (n : ℕ) (s : Text) where
    abbrev with_argument : ArgumentForm → List Rename → Option Text → Option Text → Group
    with_argument form rs t v = made (args ++ record { number = n; text = s } ∷ []) (flat_map setting_of said) (flat_map bare_of said) ((taken || list_any (is_standard_item form) said) || (reader.is_read (argument_as form) && is_standard s)) (values_in places said) rs t v

    argument_said : (form : ArgumentForm) (rs : List Rename) (t v : Option Text) → rs ≡ renames_seen form (said ++ argument s ∷ []) → t ≡ expression_of form (said ++ argument s ∷ []) → v ≡ assigns_of form (said ++ argument s ∷ []) → with_argument form rs t v ≡ after_argument form n s
    argument_said form rs t v e f h = made_same refl (flat_map_kept setting_of said (argument s) refl) (flat_map_kept bare_of said (argument s) refl) standard (values_kept places said (argument s) (λ other. refl)) e f h
      where
        standard : ((taken || list_any (is_standard_item form) said) || (reader.is_read (argument_as form) && is_standard s)) ≡ (taken || list_any (is_standard_item form) (said ++ argument s ∷ []))
        standard =
            ap (λ (b : Bool). (taken || list_any (is_standard_item form) said) || b) (standard_same form s)
            ∙ or_assoc taken (list_any (is_standard_item form) said) (reads_standard form s)
            ∙ ap (λ (b : Bool). taken || b) (sym (any_last (is_standard_item form) said (argument s)))

    renames_step : argument_in said ≡ None → (r : Result (List Rename) WordWhy) → renames_of s ≡ r
        → on_ok r (λ (rs : List Rename). Ok (with_argument renames rs None None)) ≡ unless (refusal_of r) (Ok (after_argument renames n s))
    unfolding rows argument_as
    renames_step first (Err w) e = refl
    renames_step first (Ok rs) e = ap (λ (g : Group). Ok g) (argument_said renames rs None None (renames_first said s rs first e) refl refl)

    expression_step : argument_in said ≡ None → (r : Option (ℕ × ExprWhy))
        → on_ok (text_or_fault r s) (λ (t : Text). Ok (with_argument expression [] (Some t) None)) ≡ unless (expression_fault r) (Ok (after_argument expression n s))
    unfolding rows argument_as
    expression_step first (Some f) = refl
    expression_step first None = ap (λ (g : Group). Ok g) (argument_said expression [] (Some s) None refl (argument_first said s first) refl)

    assignments_step : argument_in said ≡ None → (r : Option (ℕ × ExprWhy))
        → on_ok (text_or_fault r s) (λ (t : Text). Ok (with_argument assignments [] None (Some t))) ≡ unless (expression_fault r) (Ok (after_argument assignments n s))
    unfolding rows argument_as
    assignments_step first (Some f) = refl
    assignments_step first None = ap (λ (g : Group). Ok g) (argument_said assignments [] None (Some s) refl refl (argument_first said s first))

    only_argument : not (not (has_argument said) && not (has_option said (codes "bbox"))) ≡ false → argument_in said ≡ None
    only_argument room = none_of (argument_in said) (first_is_false (has_argument said) (has_option said (codes "bbox")) room)

    text_step : (form : ArgumentForm) → not (has_room form said) ≡ false
        → reader.take_text refuses (argument_as form) s (with_argument form (renames_seen form said) (expression_of form said) (assigns_of form said)) ≡ unless (refused_text refuses form s) (Ok (after_argument form n s))
    unfolding rows argument_as
    text_step nothing room = ap (λ (g : Group). Ok g) (argument_said nothing [] None None refl refl refl)
    text_step files room = accepts (names_file s) why.UnsupportedFile _ _ (argument_said files [] None None refl refl refl)
    text_step source room = ap (λ (g : Group). Ok g) (argument_said source [] None None refl refl refl)
    text_step list room = ap (λ (g : Group). Ok g) (argument_said list [] None None refl refl refl)
    text_step expression room = expression_step (only_argument room) (refuses kind.expression s)
    text_step assignments room = assignments_step (only_argument room) (refuses kind.assignments s)
    text_step renames room = renames_step (only_argument room) (renames_of s) refl
    text_step text room = ap (λ (g : Group). Ok g) (argument_said text [] None None refl refl refl)

    one_room : first_text args ≡ argument_in said → is_some (values_in places said).rect ≡ has_option said (codes "bbox") → not (is_some (first_text args) || is_some (values_in places said).rect) ≡ (not (has_argument said) && not (has_option said (codes "bbox")))
    one_room first box = ap₂ (λ (a b : Bool). not (a || b)) (ap is_some first) box ∙ not_or (has_argument said) (has_option said (codes "bbox"))

    room_same : first_text args ≡ argument_in said → is_some (values_in places said).rect ≡ has_option said (codes "bbox") → (form : ArgumentForm)
        → reader.has_room (argument_as form) (group_of places taken form args said) ≡ has_room form said
    unfolding rows argument_as
    room_same first box nothing = refl
    room_same first box files = refl
    room_same first box source = one_room first box
    room_same first box list = one_room first box
    room_same first box expression = one_room first box
    room_same first box assignments = one_room first box
    room_same first box renames = one_room first box
    room_same first box text = one_room first box

    argument_step : first_text args ≡ argument_in said → is_some (values_in places said).rect ≡ has_option said (codes "bbox") → (form : ArgumentForm)
        → reader.take_argument refuses (argument_as form) (record { number = n; text = s }) (group_of places taken form args said) ≡ unless (refused_argument refuses taken form said s) (Ok (after_argument form n s))
    argument_step first box form =
        guard _ (is_list form && has_empty_piece s) why.MissingValue _ _ _ (ap (λ (b : Bool). b && has_empty_piece s) (list_same form)) (λ full.
        guard _ (not (has_room form said)) why.ExtraWord _ _ _ (ap not (room_same first box form)) (λ room.
        guard _ (reads_standard form s && (taken || list_any (is_standard_item form) said)) why.ExtraWord _ _ _ (ap (λ (b : Bool). b && (taken || list_any (is_standard_item form) said)) (standard_same form s)) (λ once.
        text_step form room)))

-- ## Any word

-- the item that a word is, by how it splits
abbrev item_from : Line → Text → Option (Text × Text) → Item
item_from l word None = plain_item l word
item_from l word (Some o) = option o.0 o.1

item_is : (l : Line) (word : Text) → item_of l word ≡ item_from l word (option_in (form_as l) word)
item_is l word = go (at_first_equals word)
  where
    choose : (b c : Bool) (o : Text × Text) → b ≡ c → cond b (option o.0 o.1) (plain_item l word) ≡ item_from l word (cond c (Some o) None)
    choose b true o e = rw e refl
    choose b false o e = rw e refl

    go : (p : Option (Text × Text)) → elim p [ None ↦ plain_item l word | Some o ↦ cond (said_words.is_option l o.0 o.1) (option o.0 o.1) (plain_item l word) ] ≡ item_from l word (where_true (is_option (form_as l)) p)
    go None = refl
    go (Some o) = choose (said_words.is_option l o.0 o.1) (is_option (form_as l) o) o (is_option_same l o)

module _ (refuses : Refusals) (places : ℕ) (taken : Bool) (l : Line) (placed : WellPlaced l) (args : List Word) (said : Said) (first : first_text args ≡ argument_in said) (box : is_some (values_in places said).rect ≡ has_option said (codes "bbox")) where
  abbrev here : Group
  here = group_of places taken l.argument args said

  -- the reader's answer is what the table says of this item
  abbrev Answers : ℕ → Item → reader.Step → Type 0
  Answers n i step = step ≡ unless (refused_item refuses places taken l said i) (Ok (group_of places taken l.argument (args ++ argument_words n i) (said ++ i ∷ [])))

  plain_step : (n : ℕ) (word : Text) → Answers n (plain_item l word) (reader.take_plain refuses (form_as l) (record { number = n; text = word }) here)
  plain_step n word = choose (reader_rows.has_name l.bare word) (names.has_name l.bare word) (has_name_same l.bare word)
    where
      choose : (b c : Bool) → c ≡ b → Answers n (cond c (bare word) (argument word)) (cond b (reader.take_bare word here) (reader.take_argument refuses (argument_as l.argument) (record { number = n; text = word }) here))
      choose true c e = subst (λ (k : Bool). Answers n (cond k (bare word) (argument word)) (reader.take_bare word here)) (sym e) (bare_step refuses places taken args said l.argument word)
      choose false c e = subst (λ (k : Bool). Answers n (cond k (bare word) (argument word)) (reader.take_argument refuses (argument_as l.argument) (record { number = n; text = word }) here)) (sym e) (argument_step refuses places taken args said n word first box l.argument)

  split_step : (n : ℕ) (word : Text) (o : Option (Text × Text)) → Answers n (item_from l word o) (reader.take_either refuses places (form_as l) o (record { number = n; text = word }) here)
  split_step n word None = plain_step n word
  split_step n word (Some o) = subst (λ (f : Option Value). reader.take_known refuses places f o here ≡ unless (refused_option refuses places said (form_of l o.0) o.0 o.1) (Ok (group_of places taken l.argument (args ++ []) (said ++ option o.0 o.1 ∷ [])))) (sym (form_of_as l o.0)) (known_step refuses places taken args said l.argument o.0 o.1 first (form_of l o.0) (λ v e. placed_by l placed o.0 v e))

  pub word_step : (n : ℕ) (word : Text) → Answers n (item_of l word) (reader.take_word refuses places (form_as l) here (record { number = n; text = word }))
  word_step n word = subst (λ (i : Item). Answers n i (reader.take_word refuses places (form_as l) here (record { number = n; text = word }))) (sym (item_is l word)) (split_step n word (option_in (form_as l) word))
