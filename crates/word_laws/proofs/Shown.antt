-- The reader's own words and forms, which it does not export, by the values that it shows.
use Rattle.std.proofs.Common.{false, List, codes, option_map}
use Rattle.std.specs.Option.{unwrap_or}
use Rattle.table_terms.specs.Names.{Text}
use Rattle.cmd_words.specs.Rows.{Form, Row, NAME, TARGET, import_form, row_of}
use Rattle.cmd_words.specs.Rows as rows
use Rattle.cmd_words.specs.Groups.{empty_group}
use Rattle.cmd_words.specs.OptionValues.{no_values}
use Rattle.word_model.specs.CommandTable.{ValueForm, a_text, a_list, two_names, a_precision, a_rule, a_format, a_box, an_expression, a_gap, a_least_area, one_or_more, zero_or_more, calculations, ArgumentForm, nothing, files, source, list, expression, assignments, renames, text}

abbrev pub TypeOf : {A : Type 0} → A → Type 0
TypeOf {A} x = A

abbrev pub ItemOf : {A : Type 0} → List A → Type 0
ItemOf {A} xs = A

-- a word with its number
abbrev pub Word : Type 0
Word = ItemOf (empty_group false).arguments

-- an option with its value
abbrev pub Setting : Type 0
Setting = ItemOf (empty_group false).options

-- what an argument is
abbrev pub Argument : Type 0
Argument = TypeOf import_form.argument

-- what the value of an option is
abbrev pub Value : Type 0
Value = TypeOf NAME.1

-- the values of options
abbrev pub Values : Type 0
Values = TypeOf no_values

-- ## The forms of the table of commands, as the reader has them

abbrev pub form_for : Text → Form
form_for word = unwrap_or (option_map (λ (r : Row). r.form) (row_of word)) import_form

abbrev pub value_for : Form → Text → Value
value_for form name = unwrap_or (rows.form_of form.options name) NAME.1

unfoldable pub argument_as : ArgumentForm → Argument
argument_as nothing = (form_for (codes "-clean")).argument
argument_as files = import_form.argument
argument_as source = (form_for (codes "-clip")).argument
argument_as list = (form_for (codes "-lines")).argument
argument_as expression = (form_for (codes "-filter")).argument
argument_as assignments = (form_for (codes "-each")).argument
argument_as renames = (form_for (codes "-rename-fields")).argument
argument_as text = (form_for (codes "-split")).argument

unfoldable pub value_as : ValueForm → Value
value_as a_text = NAME.1
value_as a_list = TARGET.1
value_as two_names = value_for (form_for (codes "-join")) (codes "keys")
value_as a_precision = value_for import_form (codes "precision")
value_as a_rule = value_for (form_for (codes "-clean")) (codes "overlap-rule")
value_as a_format = value_for (form_for (codes "-o")) (codes "format")
value_as a_box = value_for (form_for (codes "-clip")) (codes "bbox")
value_as an_expression = value_for (form_for (codes "-join")) (codes "where")
value_as a_gap = value_for (form_for (codes "-clean")) (codes "gap-fill-area")
value_as a_least_area = value_for (form_for (codes "-filter-islands")) (codes "min-area")
value_as one_or_more = value_for (form_for (codes "-uniq")) (codes "max-count")
value_as zero_or_more = value_for (form_for (codes "-filter-islands")) (codes "min-vertices")
value_as calculations = value_for (form_for (codes "-join")) (codes "calc")
