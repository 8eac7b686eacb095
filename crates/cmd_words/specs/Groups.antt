-- The words of one group that were read so far.
use Rattle.std.specs.Prelude.{ℕ, Bool, List, [], ◌∷◌, Option, Some, None}
use Rattle.table_terms.specs.declared.renames.Rename.{Rename}
use Rattle.cmd_words.specs.declared.option_values.Values.{Values}
use Rattle.cmd_words.specs.declared.word_groups.Word.{Word}
use Rattle.cmd_words.specs.declared.word_groups.Setting.{Setting}
use Rattle.cmd_words.specs.Rows.{Text, has_name}
use Rattle.cmd_words.specs.Settings.{value_named}
use Rattle.cmd_words.specs.OptionValues.{no_values}

pub record Group : Type 0 where
  pub arguments : List Word
  pub options : List Setting
  pub bare : List Text
  -- some word of the chain so far reads standard input
  pub reads_standard : Bool
  pub values : Values
  -- the renames and the texts of the expression and of the assignments that an argument gave
  pub renames : List Rename
  pub expression : Option Text
  pub assigns : Option Text

abbrev pub empty_group : Bool → Group
empty_group reads_standard = record { arguments = []; options = []; bare = []; reads_standard = reads_standard; values = no_values; renames = []; expression = None; assigns = None }

abbrev pub value_in : Group → Text → Option Text
value_in g name = value_named g.options name

abbrev pub has_bare : Group → Text → Bool
has_bare g word = has_name g.bare word

abbrev pub first_text : List Word → Option Text
first_text [] = None
first_text (w ∷ ws) = Some w.text

-- the first argument
abbrev pub argument_in : Group → Option Text
argument_in g = first_text g.arguments

abbrev pub number_of_first : List Word → ℕ
number_of_first [] = 0
number_of_first (w ∷ ws) = w.number

abbrev pub first_number : Group → ℕ
first_number g = number_of_first g.arguments
