-- The words of a group, one after the other: the reader holds the group that they say, or refuses the same word.
use Rattle.std.proofs.Common.{◌≡◌, ℕ, Bool, true, false, not, ◌&&◌, ◌||◌, cond, List, [], ◌∷◌, ◌++◌, map, codes, Option, Some, None, is_some, Result, Ok, Err, unwrap_or, bytes_eq, flat_map, refl, ap, ap₂, sym, ◌∙◌, subst, append_assoc}
use Rattle.std.specs.Option.{option_or}
use Rattle.std.specs.List.{list_any}
use Rattle.std.proofs.lemmas.List.{append-nil, map-append}
use Rattle.grid_base.specs.Grid.{Corners}
use Rattle.table_terms.specs.Names.{Text}
use Rattle.table_terms.specs.Refusals.{unless, first_refusal}
use Rattle.table_terms.specs.Refusals as table
use Rattle.cmd_words.specs.declared.fault.WordWhy.{WordWhy}
use Rattle.cmd_words.specs.declared.fault.WordWhy.TheVariants as why
use Rattle.cmd_words.specs.Boxes.{box_of_text}
use Rattle.cmd_words.specs.Expressions.{Refusals}
use Rattle.cmd_words.specs.Steps.{on_ok}
use Rattle.cmd_words.specs.Texts.{is_standard}
use Rattle.cmd_words.specs.Groups.{Group}
use Rattle.cmd_words.specs.Options.{Step, take_word}
use Rattle.cmd_words.specs.Words.{Reading, at_word, take_words}
use Rattle.word_model.specs.CommandTable.{Item, option, bare, argument, Said, ValueForm, a_text, a_list, two_names, a_precision, a_rule, a_format, a_box, an_expression, a_gap, a_least_area, one_or_more, zero_or_more, calculations, ArgumentForm, nothing, files, source, list, expression, assignments, renames, text, Line, value_of, value_in, has_option, has_argument, argument_in, argument_text, form_of}
use Rattle.word_model.specs.Words.{item_of, refused_if, refusal_of, lacks_value, has_room, refused_value, is_excluded, refused_option, is_standard_item, refused_argument, refused_item, says}
use Rattle.word_model.specs.Words as said_words
use Rattle.word_laws.proofs.Tests.{none_of, first_is_false, refused_none, first_is_none, second_is_none}
use Rattle.word_laws.proofs.Forms.{form_as}
use Rattle.word_laws.proofs.Shown.{Word}
use Rattle.word_laws.proofs.Values.{ok_option, box_from, is_box, Placing, WellPlaced, Placed, placed_by}
use Rattle.word_laws.proofs.Groups.{argument_words, text_of, values_in, group_of, first_same, flat_map_last, any_last, any_kept, value_more, argument_kept, argument_first}
use Rattle.word_laws.proofs.Steps.{word_step}

-- ## What stays true

-- one source at most, so that the first argument tells whether standard input is read
abbrev pub OneSource : ArgumentForm → Said → Type 0
OneSource source said = list_any (is_standard_item source) said ≡ is_standard (argument_text said)
OneSource _ said = Unit {0}

pub record Kept (places : ℕ) (form : ArgumentForm) (args : List Word) (said : Said) : Type 0 where
  pub texts : map (λ (w : Word). w.text) args ≡ flat_map text_of said
  pub box : is_some (values_in places said).rect ≡ has_option said (codes "bbox")
  pub one : OneSource form said

pub kept_at_start : (places : ℕ) (form : ArgumentForm) → Kept places form [] []
kept_at_start places form = record { texts = refl; box = refl; one = none form }
  where
    none : (f : ArgumentForm) → OneSource f []
    none source = refl
    none nothing = tt
    none files = tt
    none list = tt
    none expression = tt
    none assignments = tt
    none renames = tt
    none text = tt

words_texts : (n : ℕ) (i : Item) → map (λ (w : Word). w.text) (argument_words n i) ≡ text_of i
words_texts n (argument s) = refl
words_texts n (option name value) = refl
words_texts n (bare word) = refl

one_other : (form : ArgumentForm) (said : Said) (i : Item) → argument_in (i ∷ []) ≡ None → is_standard_item source i ≡ false → OneSource form said → OneSource form (said ++ i ∷ [])
one_other source said i a s one = sym (any_kept (is_standard_item source) said i s) ∙ one ∙ ap (λ (o : Option Text). is_standard (unwrap_or o [])) (argument_kept said i a)
one_other nothing said i a s one = tt
one_other files said i a s one = tt
one_other list said i a s one = tt
one_other expression said i a s one = tt
one_other assignments said i a s one = tt
one_other renames said i a s one = tt
one_other text said i a s one = tt

had_room : (refuses : Refusals) (taken : Bool) (said : Said) (s : Text) → refused_argument refuses taken source said s ≡ None → not (has_room source said) ≡ false
had_room refuses taken said s e =
    let twice : Option WordWhy = first_refusal (refused_if (is_standard s && (taken || list_any (is_standard_item source) said)) why.ExtraWord) None in
    let full : Option WordWhy = refused_if (not (has_room source said)) why.ExtraWord in
    refused_none (not (has_room source said)) why.ExtraWord (first_is_none full twice (second_is_none None (first_refusal full twice) e))

one_argument : (refuses : Refusals) (taken : Bool) (form : ArgumentForm) (said : Said) (s : Text) → refused_argument refuses taken form said s ≡ None → OneSource form said → OneSource form (said ++ argument s ∷ [])
one_argument refuses taken nothing said s e one = tt
one_argument refuses taken files said s e one = tt
one_argument refuses taken list said s e one = tt
one_argument refuses taken expression said s e one = tt
one_argument refuses taken assignments said s e one = tt
one_argument refuses taken renames said s e one = tt
one_argument refuses taken text said s e one = tt
one_argument refuses taken source said s e one =
    any_last (is_standard_item source) said (argument s) ∙ ap (λ (b : Bool). b || is_standard s) (one ∙ ap (λ (o : Option Text). is_standard (unwrap_or o [])) alone)
    ∙ ap (λ (o : Option Text). is_standard (unwrap_or o [])) (argument_first said s alone)
  where
    alone : argument_in said ≡ None
    alone = none_of (argument_in said) (first_is_false (has_argument said) (has_option said (codes "bbox")) (had_room refuses taken said s e))

-- an accepted box has corners
accepted_box : (places : ℕ) (r : Result Corners WordWhy) → refusal_of r ≡ None → is_some (ok_option r) ≡ true
accepted_box places (Ok a) e = refl
accepted_box places (Err w) e = absurd (cc)

box_value : (refuses : Refusals) (places : ℕ) (f : ValueForm) (value : Text) → is_box f ≡ true → refused_value refuses places f value ≡ None → is_some (ok_option (box_of_text places value)) ≡ true
box_value refuses places a_box value b e = accepted_box places (box_of_text places value) e
box_value refuses places a_text value b e = absurd (cc)
box_value refuses places a_list value b e = absurd (cc)
box_value refuses places two_names value b e = absurd (cc)
box_value refuses places a_precision value b e = absurd (cc)
box_value refuses places a_rule value b e = absurd (cc)
box_value refuses places a_format value b e = absurd (cc)
box_value refuses places an_expression value b e = absurd (cc)
box_value refuses places a_gap value b e = absurd (cc)
box_value refuses places a_least_area value b e = absurd (cc)
box_value refuses places one_or_more value b e = absurd (cc)
box_value refuses places zero_or_more value b e = absurd (cc)
box_value refuses places calculations value b e = absurd (cc)

value_accepted : (refuses : Refusals) (places : ℕ) (said : Said) (v : ValueForm) (name value : Text) → refused_option refuses places said (Some v) name value ≡ None → refused_value refuses places v value ≡ None
value_accepted refuses places said v name value e =
    let beside : Option WordWhy = refused_if (is_excluded v said) why.ExtraWord in
    let last : Option WordWhy = refused_value refuses places v value in
    let lacks : Option WordWhy = refused_if (lacks_value v value) why.MissingValue in
    second_is_none beside last (second_is_none lacks (first_refusal beside last) (second_is_none (refused_if (has_option said name) why.OptionTwice) (first_refusal lacks (first_refusal beside last)) e))

box_option : (refuses : Refusals) (places : ℕ) (said : Said) (name value : Text) (f : Option ValueForm) → ((v : ValueForm) → f ≡ Some v → Placed v name)
    → refused_option refuses places said f name value ≡ None → bytes_eq name (codes "bbox") ≡ true → is_some (ok_option (box_of_text places value)) ≡ true
box_option refuses places said name value None p e b = absurd (cc)
box_option refuses places said name value (Some v) p e b = box_value refuses places v value (sym (ap (λ (k : Placing). k.1) (p v refl)) ∙ b) (value_accepted refuses places said v name value e)

box_more : (places : ℕ) (u v : Option Text) → is_some (box_from places u) ≡ is_some u → is_some (box_from places v) ≡ is_some v → is_some (box_from places (option_or u v)) ≡ is_some (option_or u v)
box_more places None v e f = f
box_more places (Some s) v e f = e

box_said : (refuses : Refusals) (places : ℕ) (taken : Bool) (l : Line) (placed : WellPlaced l) (said : Said) (i : Item) → refused_item refuses places taken l said i ≡ None
    → is_some (box_from places (value_of (codes "bbox") i)) ≡ is_some (value_of (codes "bbox") i)
box_said refuses places taken l placed said (bare word) e = refl
box_said refuses places taken l placed said (argument s) e = refl
box_said refuses places taken l placed said (option name value) e = choose (bytes_eq name (codes "bbox")) (box_option refuses places said name value (form_of l name) (placed_by l placed name) e)
  where
    choose : (b : Bool) → (b ≡ true → is_some (ok_option (box_of_text places value)) ≡ true) → is_some (box_from places (cond b (Some value) None)) ≡ is_some (cond b (Some value) None)
    choose true f = f refl
    choose false f = refl

one_said : (refuses : Refusals) (places : ℕ) (taken : Bool) (l : Line) (said : Said) (i : Item) → refused_item refuses places taken l said i ≡ None → OneSource l.argument said → OneSource l.argument (said ++ i ∷ [])
one_said refuses places taken l said (argument s) e one = one_argument refuses taken l.argument said s e one
one_said refuses places taken l said (option name value) e one = one_other l.argument said (option name value) refl refl one
one_said refuses places taken l said (bare word) e one = one_other l.argument said (bare word) refl refl one

kept_more : (refuses : Refusals) (places : ℕ) (taken : Bool) (l : Line) (placed : WellPlaced l) (args : List Word) (said : Said) (n : ℕ) (i : Item) → Kept places l.argument args said → refused_item refuses places taken l said i ≡ None
    → Kept places l.argument (args ++ argument_words n i) (said ++ i ∷ [])
kept_more refuses places taken l placed args said n i kept e = record {
  texts = map-append (λ (w : Word). w.text) args (argument_words n i) ∙ ap₂ (λ (xs ys : List Text). xs ++ ys) kept.texts (words_texts n i) ∙ sym (flat_map_last text_of said i);
  box =
      subst (λ (o : Option Text). is_some (box_from places o) ≡ is_some o) (sym (value_more said i (codes "bbox")))
      (box_more places (value_in said (codes "bbox")) (value_of (codes "bbox") i) kept.box (box_said refuses places taken l placed said i e));
  one = one_said refuses places taken l said i e kept.one;
}

-- ## Words, one after the other

abbrev pub word_as : said_words.Word → Word
word_as w = record { number = w.0; text = w.1 }

abbrev pub args_of : Line → List said_words.Word → List Word
args_of l ws = flat_map (λ (w : said_words.Word). argument_words w.0 (item_of l w.1)) ws

-- both read the same
abbrev pub Same : ℕ → Bool → ArgumentForm → List Word → Reading Said → Reading Group → Type 0
Same places taken form args (Ok said) (Ok g) = (g ≡ group_of places taken form args said) × Kept places form args said
Same places taken form args (Err e) (Err f) = e ≡ f
Same places taken form args (Ok said) (Err f) = ⊥
Same places taken form args (Err e) (Ok g) = ⊥

module _ (refuses : Refusals) (places : ℕ) (taken : Bool) (l : Line) (placed : WellPlaced l) where
  abbrev taken_from : Group → List said_words.Word → Reading Group
  taken_from g ws = take_words refuses places (form_as l) g (map word_as ws)

  next : (n : ℕ) (ws : List said_words.Word) (args rest : List Word) (said : Said) (r : Option WordWhy) (step : Step) → step ≡ unless r (Ok (group_of places taken l.argument args said))
      → (r ≡ None → Same places taken l.argument rest (says refuses places taken l said ws) (taken_from (group_of places taken l.argument args said) ws))
      → Same places taken l.argument rest (elim r [ Some reason ↦ Err (n, reason) | None ↦ says refuses places taken l said ws ]) (on_ok (at_word n step) (λ (g : Group). taken_from g ws))
  next n ws args rest said None step e later = subst (λ (s : Step). Same places taken l.argument rest (says refuses places taken l said ws) (on_ok (at_word n s) (λ (g : Group). taken_from g ws))) (sym e) (later refl)
  next n ws args rest said (Some w) step e later = subst (λ (s : Step). Same places taken l.argument rest (Err (n, w)) (on_ok (at_word n s) (λ (g : Group). taken_from g ws))) (sym e) refl

  pub words_taken : (ws : List said_words.Word) (args : List Word) (said : Said) → Kept places l.argument args said
      → Same places taken l.argument (args ++ args_of l ws) (says refuses places taken l said ws) (taken_from (group_of places taken l.argument args said) ws)
  words_taken [] args said kept = (ap (λ (a : List Word). group_of places taken l.argument a said) (sym (append-nil args)), subst (λ (a : List Word). Kept places l.argument a said) (sym (append-nil args)) kept)
  words_taken (w ∷ ws) args said kept =
      subst (λ (a : List Word). Same places taken l.argument a (says refuses places taken l said (w ∷ ws)) (taken_from (group_of places taken l.argument args said) (w ∷ ws))) (append_assoc args (argument_words w.0 (item_of l w.1)) (args_of l ws))
      (next w.0 ws (args ++ argument_words w.0 (item_of l w.1)) ((args ++ argument_words w.0 (item_of l w.1)) ++ args_of l ws) (said ++ item_of l w.1 ∷ []) (refused_item refuses places taken l said (item_of l w.1))
      (take_word refuses places (form_as l) (group_of places taken l.argument args said) (word_as w))
      (word_step refuses places taken l placed args said (first_same args said kept.texts) kept.box w.0 w.1)
      (λ e. words_taken ws (args ++ argument_words w.0 (item_of l w.1)) (said ++ item_of l w.1 ∷ []) (kept_more refuses places taken l placed args said w.0 (item_of l w.1) kept e)))

-- what follows is the same too
pub joined : {B : Type 0} (places : ℕ) (taken : Bool) (form : ArgumentForm) (args : List Word) (a : Reading Said) (b : Reading Group) (f : Said → Reading B) (h : Group → Reading B)
    → Same places taken form args a b → ((said : Said) → Kept places form args said → f said ≡ h (group_of places taken form args said)) → table.on_ok a f ≡ on_ok b h
joined places taken form args (Ok said) (Ok g) f h s k = k said s.1 ∙ ap h (sym s.0)
joined places taken form args (Err e) (Err e') f h s k = ap (λ z. Err z) s
joined places taken form args (Ok said) (Err e) f h s k = absurd s
joined places taken form args (Err e) (Ok g) f h s k = absurd s
