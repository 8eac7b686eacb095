-- One word of a group: an option, a bare word or an argument; and why it is refused.
use Rattle.std.specs.Prelude.{ℕ, Bool, true, false, not, ◌&&◌, ◌||◌, [], ◌∷◌, ◌++◌, codes, Option, Some, None, is_some, Result, Ok, Err, if◌then◌else◌}
use Rattle.std.specs.Str.{bytes_eq}
use Rattle.cmd_words.specs.declared.fault.WordWhy.{WordWhy}
use Rattle.cmd_words.specs.declared.fault.WordWhy.TheVariants as why
use Rattle.cmd_words.specs.declared.commands.ValueForm.{ValueForm}
use Rattle.cmd_words.specs.declared.commands.ValueForm.TheVariants as value
use Rattle.cmd_words.specs.declared.commands.ArgumentForm.{ArgumentForm}
use Rattle.cmd_words.specs.declared.commands.ArgumentForm.TheVariants as argument
use Rattle.cmd_words.specs.declared.word_groups.Word.{Word}
use Rattle.cmd_words.specs.Rows.{Text, Form, form_of, has_name}
use Rattle.cmd_words.specs.Steps.{on_ok}
use Rattle.cmd_words.specs.Expressions as kind
use Rattle.cmd_words.specs.Expressions.{Refusals, text_or_fault}
use Rattle.cmd_words.specs.Texts.{is_empty, has_empty_piece, option_in, is_standard, names_file}
use Rattle.cmd_words.specs.Values.{renames_of}
use Rattle.cmd_words.specs.OptionValues.{take_value}
use Rattle.cmd_words.specs.Groups.{Group, value_in, has_bare, argument_in}

-- a group with the next word, or why that is refused
abbrev pub Step : Type 0
Step = Result Group WordWhy

abbrev pub unless : Bool → WordWhy → Group → Step
unless accepted w g = if accepted then Ok g else Err w

-- ## Values

-- an empty value, or a list with an empty item
abbrev pub lacks_value : ValueForm → Text → Bool
lacks_value value.List s = has_empty_piece s
lacks_value value.Keys s = has_empty_piece s
lacks_value _ s = is_empty s

-- the values of a group take one more
abbrev pub with_value : Refusals → ℕ → ValueForm → Text → Group → Step
with_value refuses places f s g = on_ok (take_value refuses places f s g.values) (λ v. Ok (record g { values = v }))

-- ## Options and bare words

-- a box does not stand beside an argument in whose place it is, and a join is by keys or by place
abbrev pub is_excluded : ValueForm → Group → Bool
is_excluded value.Rect g = is_some (argument_in g)
is_excluded value.Keys g = is_some (value_in g (codes "calc"))
is_excluded value.Calculations g = is_some (value_in g (codes "keys"))
is_excluded _ g = false

-- a known option stands once, has a value, and is not excluded
abbrev pub take_known : Refusals → ℕ → Option ValueForm → Text × Text → Group → Step
take_known refuses places None o g = Err why.UnknownOption
take_known refuses places (Some v) o g =
    if is_some (value_in g o.0) then Err why.OptionTwice
    else if lacks_value v o.1 then Err why.MissingValue
    else if is_excluded v g then Err why.ExtraWord
    else with_value refuses places v o.1 (record g { options = g.options ++ record { name = o.0; value = o.1 } ∷ [] })

-- rows ascend or descend
abbrev pub is_opposed : Group → Text → Bool
is_opposed g w =
    if bytes_eq w (codes "ascending") then has_bare g (codes "descending")
    else if bytes_eq w (codes "descending") then has_bare g (codes "ascending")
    else false

abbrev pub take_bare : Text → Group → Step
take_bare w g =
    if has_bare g w then Err why.OptionTwice
    else if is_opposed g w then Err why.ExtraWord
    else Ok (record g { bare = g.bare ++ w ∷ [] })

-- ## Arguments

abbrev pub is_list : ArgumentForm → Bool
is_list argument.List = true
is_list argument.Renames = true
is_list _ = false

abbrev pub is_read : ArgumentForm → Bool
is_read argument.Files = true
is_read argument.Source = true
is_read _ = false

-- one argument may stand, or any number of files, and none in whose place a box is
abbrev pub has_room : ArgumentForm → Group → Bool
has_room argument.Files g = true
has_room argument.Nothing g = false
has_room _ g = not (is_some (argument_in g) || is_some g.values.rect)

abbrev pub take_text : Refusals → ArgumentForm → Text → Group → Step
take_text refuses argument.Files s g = unless (names_file s) why.UnsupportedFile g
take_text refuses argument.Renames s g = on_ok (renames_of s) (λ rs. Ok (record g { renames = rs }))
take_text refuses argument.Expression s g = on_ok (text_or_fault (refuses kind.expression s) s) (λ t. Ok (record g { expression = Some t }))
take_text refuses argument.Assignments s g = on_ok (text_or_fault (refuses kind.assignments s) s) (λ t. Ok (record g { assigns = Some t }))
take_text refuses _ s g = Ok g

abbrev pub with_argument : ArgumentForm → Word → Group → Group
with_argument a w g = record g { arguments = g.arguments ++ w ∷ []; reads_standard = g.reads_standard || (is_read a && is_standard w.text) }

-- standard input is read once in a chain
abbrev pub take_argument : Refusals → ArgumentForm → Word → Group → Step
take_argument refuses a w g =
    if is_list a && has_empty_piece w.text then Err why.MissingValue
    else if not (has_room a g) then Err why.ExtraWord
    else if (is_read a && is_standard w.text) && g.reads_standard then Err why.ExtraWord
    else take_text refuses a w.text (with_argument a w g)

-- ## Words

abbrev pub take_plain : Refusals → Form → Word → Group → Step
take_plain refuses form w g =
    if has_name form.bare w.text then take_bare w.text g else take_argument refuses form.argument w g

abbrev pub take_either : Refusals → ℕ → Form → Option (Text × Text) → Word → Group → Step
take_either refuses places form None w g = take_plain refuses form w g
take_either refuses places form (Some o) w g = take_known refuses places (form_of form.options o.0) o g

abbrev pub take_word : Refusals → ℕ → Form → Group → Word → Step
take_word refuses places form g w = take_either refuses places form (option_in form w.text) w g
