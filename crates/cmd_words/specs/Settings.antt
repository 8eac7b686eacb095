-- Options by their names.
use Rattle.std.specs.Prelude.{List, Option, option_map, find}
use Rattle.std.specs.Str.{bytes_eq}
use Rattle.cmd_words.specs.declared.word_groups.Setting.{Setting}
use Rattle.cmd_words.specs.Rows.{Text}

-- the value of the first option of this name
abbrev pub value_named : List Setting → Text → Option Text
value_named options name = option_map (λ (o : Setting). o.value) (find (λ (o : Setting). bytes_eq o.name name) options)
