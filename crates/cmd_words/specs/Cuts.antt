-- Words that are cut into groups from the left.
use Rattle.std.specs.Prelude.{ℕ, List, [], ◌∷◌, true, ◌≡◌}
use Rattle.cmd_words.specs.Rows.{Text}
use Rattle.cmd_words.specs.Texts.{is_command}
use Rattle.cmd_words.specs.Words.{CommandGroup, words_from, grouped}

-- the first word, if there is one, is a command word
abbrev pub BeginsACommand : List Text → Type 0
BeginsACommand [] = Unit {0}
BeginsACommand (w ∷ ws) = is_command w ≡ true

-- the command words among these, numbered from n on, with the words after each
abbrev pub commands_of : ℕ → List Text → List CommandGroup
commands_of n words = (grouped (words_from n words)).commands
