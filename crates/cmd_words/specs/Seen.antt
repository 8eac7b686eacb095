-- The rows of the code's table, without their references.
use Rattle.std.specs.Prelude.{List, map, Option, option_map}
use Rattle.std.specs.Borrow.{Bor}
use Rattle.cmd_words.specs.declared.commands.CommandRow.{CommandRow}
use Rattle.cmd_words.specs.declared.commands.GroupForm.{GroupForm}
use Rattle.cmd_words.specs.declared.commands.ValueForm.{ValueForm}
use Rattle.cmd_words.specs.Rows.{Text, Form, Row}

abbrev pub options_seen : List (Bor Text × ValueForm) → List (Text × ValueForm)
options_seen options = map (λ (o : Bor Text × ValueForm). (o.0.now, o.1)) options

abbrev pub names_seen : List (Bor Text) → List Text
names_seen names = map (λ (n : Bor Text). n.now) names

abbrev pub form_seen : GroupForm → Form
form_seen f = record { argument = f.argument; options = options_seen f.options.now; bare = names_seen f.bare.now }

abbrev pub row_seen : CommandRow → Row
row_seen r = record { word = r.word.now; keyword = r.keyword; form = form_seen r.form }

-- two texts that are lent
abbrev pub parts_seen : Option (Bor Text × Bor Text) → Option (Text × Text)
parts_seen parts = option_map (λ (p : Bor Text × Bor Text). (p.0.now, p.1.now)) parts
