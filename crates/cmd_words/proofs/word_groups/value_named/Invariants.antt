use Rattle.std.proofs.Common.{◌≡◌, drop}
use Rattle.cmd_words.specs.Settings.{value_named}
use Rattle.cmd_words.proofs.word_groups.value_named.Given as goal

abbrev pub invariant-loop-option : goal.invariant-loop-option
invariant-loop-option l = value_named l.options l.name ≡ value_named (drop l.option-index l.options) l.name
