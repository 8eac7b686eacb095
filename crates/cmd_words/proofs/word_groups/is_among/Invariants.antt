use Rattle.std.proofs.Common.{◌≡◌, drop}
use Rattle.cmd_words.specs.Rows.{has_name}
use Rattle.cmd_words.proofs.word_groups.is_among.Given as goal

abbrev pub invariant-loop-known : goal.invariant-loop-known
invariant-loop-known l = has_name l.names l.name ≡ has_name (drop l.known-index l.names) l.name
