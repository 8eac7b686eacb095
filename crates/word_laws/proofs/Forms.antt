-- What may stand in a group, by the table of commands, as the reader's rows have it.
use Rattle.std.proofs.Common.{◌≡◌, Bool, true, false, not, ◌&&◌, cond, List, [], ◌∷◌, map, Option, Some, None, is_some, option_map, bytes_eq, find, refl, ap, sym, ◌∙◌}
use Rattle.table_terms.specs.Names.{Text}
use Rattle.cmd_words.specs.Rows as reader_rows
use Rattle.cmd_words.specs.Options as reader
use Rattle.cmd_words.specs.Rows.{rows}
use Rattle.cmd_words.specs.Texts as texts
use Rattle.word_model.specs.CommandTable.{ValueForm, a_text, a_list, two_names, a_precision, a_rule, a_format, a_box, an_expression, a_gap, a_least_area, one_or_more, zero_or_more, calculations, ArgumentForm, nothing, files, source, list, expression, assignments, renames, text, Line, import_line, form_of}
use Rattle.word_model.specs.Words.{begins_with_equals, splits, is_option, lacks_value, is_list, reads_standard}
use Rattle.word_laws.proofs.Shown.{Value, argument_as, value_as}

abbrev pub option_as : Text × ValueForm → Text × Value
option_as o = (o.0, value_as o.1)

abbrev pub form_as : Line → reader_rows.Form
form_as l = record { argument = argument_as l.argument; options = map option_as l.options; bare = l.bare }

pub import_as : form_as import_line ≡ reader_rows.import_form
unfolding rows argument_as value_as
import_as = refl

-- an option has the same form by both
pub form_of_as : (l : Line) (name : Text) → reader_rows.form_of (form_as l).options name ≡ option_map value_as (form_of l name)
form_of_as l name = go l.options
  where
    choose : (b : Bool) (o : Text × ValueForm) (os : List (Text × ValueForm))
        → option_map (λ (o : Text × Value). o.1) (find (λ (o : Text × Value). bytes_eq o.0 name) (map option_as os)) ≡ option_map value_as (option_map (λ (o : Text × ValueForm). o.1) (find (λ (o : Text × ValueForm). bytes_eq o.0 name) os))
        → option_map (λ (o : Text × Value). o.1) (cond b (Some (option_as o)) (find (λ (o : Text × Value). bytes_eq o.0 name) (map option_as os))) ≡ option_map value_as (option_map (λ (o : Text × ValueForm). o.1) (cond b (Some o) (find (λ (o : Text × ValueForm). bytes_eq o.0 name) os)))
    choose true o os e = refl
    choose false o os e = e

    go : (os : List (Text × ValueForm)) → reader_rows.form_of (map option_as os) name ≡ option_map value_as (option_map (λ (o : Text × ValueForm). o.1) (find (λ (o : Text × ValueForm). bytes_eq o.0 name) os))
    go [] = refl
    go (o ∷ os) = choose (bytes_eq o.0 name) o os (go os)

-- ## Words that are options

pub begins_same : (value : Text) → begins_with_equals value ≡ texts.begins_with_equals value
begins_same [] = refl
begins_same (b ∷ rest) = refl

splits_by_form : (a : ArgumentForm) (known : Bool) (value : Text) → splits a known value ≡ texts.splits (argument_as a) known (texts.begins_with_equals value)
unfolding rows argument_as
splits_by_form nothing known value = refl
splits_by_form files known value = refl
splits_by_form source known value = refl
splits_by_form list known value = refl
splits_by_form expression known value = ap (λ (b : Bool). known && not b) (begins_same value)
splits_by_form assignments known value = ap (λ (b : Bool). known && not b) (begins_same value)
splits_by_form renames known value = refl
splits_by_form text known value = refl

known_same : (o : Option ValueForm) → is_some o ≡ is_some (option_map value_as o)
known_same None = refl
known_same (Some f) = refl

pub is_option_same : (l : Line) (o : Text × Text) → is_option l o.0 o.1 ≡ texts.is_option (form_as l) o
is_option_same l o =
    splits_by_form l.argument (is_some (form_of l o.0)) o.1
    ∙ ap (λ (b : Bool). texts.splits (argument_as l.argument) b (texts.begins_with_equals o.1)) (known_same (form_of l o.0) ∙ ap is_some (sym (form_of_as l o.0)))

-- ## Tests of forms

pub lacks_same : (f : ValueForm) (s : Text) → reader.lacks_value (value_as f) s ≡ lacks_value f s
unfolding rows value_as
lacks_same a_text s = refl
lacks_same a_list s = refl
lacks_same two_names s = refl
lacks_same a_precision s = refl
lacks_same a_rule s = refl
lacks_same a_format s = refl
lacks_same a_box s = refl
lacks_same an_expression s = refl
lacks_same a_gap s = refl
lacks_same a_least_area s = refl
lacks_same one_or_more s = refl
lacks_same zero_or_more s = refl
lacks_same calculations s = refl

pub list_same : (a : ArgumentForm) → reader.is_list (argument_as a) ≡ is_list a
unfolding rows argument_as
list_same nothing = refl
list_same files = refl
list_same source = refl
list_same list = refl
list_same expression = refl
list_same assignments = refl
list_same renames = refl
list_same text = refl

pub standard_same : (a : ArgumentForm) (s : Text) → (reader.is_read (argument_as a) && texts.is_standard s) ≡ reads_standard a s
unfolding rows argument_as
standard_same nothing s = refl
standard_same files s = refl
standard_same source s = refl
standard_same list s = refl
standard_same expression s = refl
standard_same assignments s = refl
standard_same renames s = refl
standard_same text s = refl
