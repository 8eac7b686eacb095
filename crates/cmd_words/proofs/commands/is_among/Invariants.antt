use Rattle.std.proofs.Common.{◌≡◌, drop}
use Rattle.cmd_words.specs.Rows.{has_name}
use Rattle.cmd_words.specs.Seen.{names_seen}
use Rattle.cmd_words.proofs.commands.is_among.Given as goal

abbrev pub invariant-loop-known : goal.invariant-loop-known
invariant-loop-known l = has_name (names_seen l.names) l.name ≡ has_name (names_seen (drop l.known-index l.names)) l.name
