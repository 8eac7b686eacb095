-- The group that the reader holds after some words of it, by what they have said.
use Rattle.std.proofs.Common.{◌≡◌, ℕ, Bool, true, false, ◌||◌, cond, List, [], ◌∷◌, ◌++◌, map, Option, Some, None, option_map, Result, Ok, Err, unwrap_or, bytes_eq, find, flat_map, refl, ap, ap₂, sym, ◌∙◌, subst}
use Rattle.std.specs.Option.{option_or}
use Rattle.std.specs.List.{list_any}
use Rattle.std.proofs.Math.Path.{fun_ext}
use Rattle.std.proofs.lemmas.List.{append-nil}
use Rattle.std.proofs.lemmas.Grind.{flat_map-append}
use Rattle.std.proofs.lemmas.List.Folds.{list_any-append}
use Rattle.table_terms.specs.Names.{Text}
use Rattle.table_terms.specs.declared.renames.Rename.{Rename}
use Rattle.cmd_words.specs.declared.fault.WordWhy.{WordWhy}
use Rattle.cmd_words.specs.Rows as rows
use Rattle.cmd_words.specs.Settings.{value_named}
use Rattle.cmd_words.specs.Values.{renames_of}
use Rattle.cmd_words.specs.Groups.{Group, first_text}
use Rattle.word_model.specs.CommandTable.{Item, option, bare, argument, Said, ArgumentForm, nothing, files, source, list, expression, assignments, renames, text, value_of, value_in, has_bare, argument_in, renames_in}
use Rattle.word_model.specs.Words.{is_standard_item}
use Rattle.word_laws.proofs.Tests.{same_bytes, or_false, or_none}
use Rattle.word_laws.proofs.Shown.{Word, Setting, Values}
use Rattle.word_laws.proofs.Values.{values_by, with_look}

-- ## What one word says

abbrev pub argument_words : ℕ → Item → List Word
argument_words n (argument s) = record { number = n; text = s } ∷ []
argument_words n (option name value) = []
argument_words n (bare word) = []

abbrev pub text_of : Item → List Text
text_of (argument s) = s ∷ []
text_of (option name value) = []
text_of (bare word) = []

abbrev pub setting_of : Item → List Setting
setting_of (option name value) = record { name = name; value = value } ∷ []
setting_of (argument s) = []
setting_of (bare word) = []

abbrev pub bare_of : Item → List Text
bare_of (bare word) = word ∷ []
bare_of (argument s) = []
bare_of (option name value) = []

-- ## What they say together

abbrev pub values_in : ℕ → Said → Values
values_in places said = values_by places (value_in said)

abbrev pub renames_seen : ArgumentForm → Said → List Rename
renames_seen renames said = renames_in said
renames_seen _ said = []

-- the texts of the expression and of the assignments
abbrev pub expression_of : ArgumentForm → Said → Option Text
expression_of expression said = argument_in said
expression_of _ said = None

abbrev pub assigns_of : ArgumentForm → Said → Option Text
assigns_of assignments said = argument_in said
assigns_of _ said = None

abbrev pub made : List Word → List Setting → List Text → Bool → Values → List Rename → Option Text → Option Text → Group
made a o b r x n t v = record { arguments = a; options = o; bare = b; reads_standard = r; values = x; renames = n; expression = t; assigns = v }

-- after groups of which one reads standard input, or none
abbrev pub group_of : ℕ → Bool → ArgumentForm → List Word → Said → Group
group_of places taken form args said = made args (flat_map setting_of said) (flat_map bare_of said) (taken || list_any (is_standard_item form) said) (values_in places said) (renames_seen form said) (expression_of form said) (assigns_of form said)

pub made_same : {a a' : List Word} {o o' : List Setting} {b b' : List Text} {r r' : Bool} {x x' : Values} {n n' : List Rename} {t t' v v' : Option Text}
    → a ≡ a' → o ≡ o' → b ≡ b' → r ≡ r' → x ≡ x' → n ≡ n' → t ≡ t' → v ≡ v' → made a o b r x n t v ≡ made a' o' b' r' x' n' t' v'
made_same {a} {a'} {o} {o'} {b} {b'} {r} {r'} {x} {x'} {n} {n'} {t} {t'} {v} {v'} p q u w y z k l =
    ap₂ (λ (c : List Word) (d : List Setting). made c d b r x n t v) p q ∙ ap₂ (λ (c : List Text) (d : Bool). made a' o' c d x n t v) u w
    ∙ ap₂ (λ (c : Values) (d : List Rename). made a' o' b' r' c d t v) y z ∙ ap₂ (made a' o' b' r' x' n') k l

-- ## The same is found by both

pub value_same : (said : Said) (name : Text) → value_named (flat_map setting_of said) name ≡ value_in said name
value_same [] name = refl
value_same (option key value ∷ said) name = choose (bytes_eq key name) (value_same said name)
  where
    choose : (b : Bool) → value_named (flat_map setting_of said) name ≡ value_in said name
        → option_map (λ (s : Setting). s.value) (cond b (Some (record { name = key; value = value })) (find (λ (s : Setting). bytes_eq s.name name) (flat_map setting_of said))) ≡ elim (cond b (Some value) None) [ Some v ↦ Some v | None ↦ value_in said name ]
    choose true e = refl
    choose false e = e
value_same (bare word ∷ said) name = value_same said name
value_same (argument s ∷ said) name = value_same said name

pub bare_same : (said : Said) (word : Text) → rows.has_name (flat_map bare_of said) word ≡ has_bare said word
bare_same [] word = refl
bare_same (bare w ∷ said) word = ap (λ (b : Bool). bytes_eq w word || b) (bare_same said word)
bare_same (option key value ∷ said) word = bare_same said word
bare_same (argument s ∷ said) word = bare_same said word

head : List Text → Option Text
head [] = None
head (s ∷ ss) = Some s

head_of_words : (args : List Word) → first_text args ≡ head (map (λ (w : Word). w.text) args)
unfolding head
head_of_words [] = refl
head_of_words (w ∷ ws) = refl

head_of_said : (said : Said) → argument_in said ≡ head (flat_map text_of said)
unfolding head
head_of_said [] = refl
head_of_said (argument s ∷ said) = refl
head_of_said (option key value ∷ said) = head_of_said said
head_of_said (bare word ∷ said) = head_of_said said

pub first_same : (args : List Word) (said : Said) → map (λ (w : Word). w.text) args ≡ flat_map text_of said → first_text args ≡ argument_in said
first_same args said e = head_of_words args ∙ ap head e ∙ sym (head_of_said said)

-- ## One word more

pub flat_map_last : {A : Type 0} (f : Item → List A) (said : Said) (i : Item) → flat_map f (said ++ i ∷ []) ≡ flat_map f said ++ f i
flat_map_last f said i = flat_map-append f said (i ∷ []) ∙ ap (λ ys. flat_map f said ++ ys) (append-nil (f i))

pub flat_map_kept : {A : Type 0} (f : Item → List A) (said : Said) (i : Item) → f i ≡ [] → flat_map f said ≡ flat_map f (said ++ i ∷ [])
flat_map_kept f said i e = sym (flat_map_last f said i ∙ ap (λ ys. flat_map f said ++ ys) e ∙ append-nil (flat_map f said))

pub any_last : (p : Item → Bool) (said : Said) (i : Item) → list_any p (said ++ i ∷ []) ≡ (list_any p said || p i)
any_last p said i = list_any-append p said (i ∷ []) ∙ ap (λ (b : Bool). list_any p said || b) (or_false (p i))

pub any_kept : (p : Item → Bool) (said : Said) (i : Item) → p i ≡ false → list_any p said ≡ list_any p (said ++ i ∷ [])
any_kept p said i e = sym (any_last p said i ∙ ap (λ (b : Bool). list_any p said || b) e ∙ or_false (list_any p said))

pub value_more : (said : Said) (i : Item) (name : Text) → value_in (said ++ i ∷ []) name ≡ option_or (value_in said name) (value_of name i)
value_more [] i name = alone (value_of name i)
  where
    alone : (o : Option Text) → elim o [ Some v ↦ Some v | None ↦ None ] ≡ o
    alone None = refl
    alone (Some v) = refl
value_more (j ∷ said) i name = before (value_of name j) (value_in (said ++ i ∷ []) name) (value_in said name) (value_of name i) (value_more said i name)
  where
    before : (o a b c : Option Text) → a ≡ option_or b c → elim o [ Some v ↦ Some v | None ↦ a ] ≡ option_or (elim o [ Some v ↦ Some v | None ↦ b ]) c
    before None a b c e = e
    before (Some v) a b c e = refl

pub value_kept : (said : Said) (i : Item) (name : Text) → value_of name i ≡ None → value_in said name ≡ value_in (said ++ i ∷ []) name
value_kept said i name e = sym (value_more said i name ∙ ap (λ (o : Option Text). option_or (value_in said name) o) e ∙ or_none (value_in said name))

pub argument_more : (said : Said) (i : Item) → argument_in (said ++ i ∷ []) ≡ option_or (argument_in said) (argument_in (i ∷ []))
argument_more [] i = refl
argument_more (argument s ∷ said) i = refl
argument_more (option key value ∷ said) i = argument_more said i
argument_more (bare word ∷ said) i = argument_more said i

pub argument_kept : (said : Said) (i : Item) → argument_in (i ∷ []) ≡ None → argument_in said ≡ argument_in (said ++ i ∷ [])
argument_kept said i e = sym (argument_more said i ∙ ap (λ (o : Option Text). option_or (argument_in said) o) e ∙ or_none (argument_in said))

pub values_kept : (places : ℕ) (said : Said) (i : Item) → ((name : Text) → value_of name i ≡ None) → values_in places said ≡ values_in places (said ++ i ∷ [])
values_kept places said i e = ap (values_by places) (fun_ext (λ name. value_kept said i name (e name)))

-- a first option of its name is found by it, and the others as before
pub value_more_by : (said : Said) (name value : Text) → value_in said name ≡ None → (other : Text) → value_in (said ++ option name value ∷ []) other ≡ with_look (value_in said) name value other
value_more_by said name value fresh other = value_more said (option name value) other ∙ choose (bytes_eq name other) refl
  where
    choose : (b : Bool) → bytes_eq name other ≡ b → option_or (value_in said other) (cond b (Some value) None) ≡ cond b (Some value) (value_in said other)
    choose true e = ap (λ (o : Option Text). option_or o (Some value)) (subst (λ (k : Text). value_in said k ≡ None) (same_bytes name other e) fresh)
    choose false e = or_none (value_in said other)

pub values_more : (places : ℕ) (said : Said) (name value : Text) → value_in said name ≡ None → values_by places (with_look (value_in said) name value) ≡ values_in places (said ++ option name value ∷ [])
values_more places said name value fresh = ap (values_by places) (fun_ext (λ other. sym (value_more_by said name value fresh other)))

abbrev renames_from : Option Text → List Rename
renames_from o = elim (renames_of (unwrap_or o [])) [ Ok rs ↦ rs | Err why ↦ [] ]

pub renames_kept : (form : ArgumentForm) (said : Said) (i : Item) → argument_in (i ∷ []) ≡ None → renames_seen form said ≡ renames_seen form (said ++ i ∷ [])
renames_kept renames said i e = ap renames_from (argument_kept said i e)
renames_kept nothing said i e = refl
renames_kept files said i e = refl
renames_kept source said i e = refl
renames_kept list said i e = refl
renames_kept expression said i e = refl
renames_kept assignments said i e = refl
renames_kept text said i e = refl

pub expression_kept : (form : ArgumentForm) (said : Said) (i : Item) → argument_in (i ∷ []) ≡ None → expression_of form said ≡ expression_of form (said ++ i ∷ [])
expression_kept expression said i e = argument_kept said i e
expression_kept nothing said i e = refl
expression_kept files said i e = refl
expression_kept source said i e = refl
expression_kept list said i e = refl
expression_kept assignments said i e = refl
expression_kept renames said i e = refl
expression_kept text said i e = refl

pub assigns_kept : (form : ArgumentForm) (said : Said) (i : Item) → argument_in (i ∷ []) ≡ None → assigns_of form said ≡ assigns_of form (said ++ i ∷ [])
assigns_kept assignments said i e = argument_kept said i e
assigns_kept expression said i e = refl
assigns_kept nothing said i e = refl
assigns_kept files said i e = refl
assigns_kept source said i e = refl
assigns_kept list said i e = refl
assigns_kept renames said i e = refl
assigns_kept text said i e = refl

-- a first argument
pub argument_first : (said : Said) (s : Text) → argument_in said ≡ None → Some s ≡ argument_in (said ++ argument s ∷ [])
argument_first said s e = sym (argument_more said (argument s) ∙ ap (λ (o : Option Text). option_or o (Some s)) e)

pub renames_first : (said : Said) (s : Text) (rs : List Rename) → argument_in said ≡ None → renames_of s ≡ Ok rs → rs ≡ renames_in (said ++ argument s ∷ [])
renames_first said s rs e r = ap (λ (k : Result (List Rename) WordWhy). elim k [ Ok qs ↦ qs | Err why ↦ [] ]) (sym r) ∙ ap renames_from (argument_first said s e)
