use Rattle.std.proofs.Common.{◌≡◌, drop}
use Rattle.cmd_words.specs.Rows.{form_of}
use Rattle.cmd_words.specs.Seen.{options_seen}
use Rattle.cmd_words.proofs.commands.form_named.Given as goal

abbrev pub invariant-loop-option : goal.invariant-loop-option
invariant-loop-option l = form_of (options_seen l.options) l.name ≡ form_of (options_seen (drop l.option-index l.options)) l.name
